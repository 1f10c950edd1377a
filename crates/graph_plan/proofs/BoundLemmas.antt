-- Outputs have a plan or a fault.
use Rattle.std.proofs.Common.{◌≡◌, ◌≤◌, ◌++◌, ◌⊎◌, ℕ, zero, suc, List, [], ◌∷◌, Some, length, refl, sym, ◌∙◌, ap, subst, inl, inr, arith}
use Rattle.std.specs.List.{slice_get}
use Rattle.std.proofs.lemmas.Bool.{cases_eq, cases_lt}
use Rattle.std.proofs.lemmas.List.{length_push}
use Rattle.std.proofs.lemmas.Option.{same_Some}
use Rattle.av_base.specs.declared.formats.Media.{Media}
use Rattle.av_base.specs.declared.formats.Media.TheVariants as media
use Rattle.graph_plan.specs.declared.plan.Edge.{Edge}
use Rattle.graph_plan.specs.declared.plan.Ending.{Ending}
use Rattle.graph_plan.specs.declared.plan.Ending.TheVariants.{Y4m, Wav, Frames}
use Rattle.graph_plan.specs.declared.plan.OpenOut.{OpenOut}
use Rattle.graph_plan.specs.declared.plan.OutputFile.{OutputFile}
use Rattle.graph_plan.specs.declared.plan.DraftPlan.{DraftPlan}
use Rattle.graph_plan.specs.declared.plan.Plan.{Plan}
use Rattle.graph_plan.specs.declared.plan.PlanFault.{PlanFault}
use Rattle.graph_plan.specs.declared.plan.PlanFault.TheVariants.{NoSuchOutput, Unmapped, WrongKind}
use Rattle.graph_plan.specs.Bindings.{Name, pad_names, file_names, Takes, FindsNone, IsUnmapped, CannotTake, TakesWrong, IsBindFault, Misses, Leaves, Mixes, link_to_output, IsBound, OutputsBindInOneWay}
use Rattle.graph_plan.specs.Bindings.Name.{Label, Number}
use Rattle.graph_plan.proofs.ListLemmas.{cases_Option, cases_text}
use Rattle.av_base.proofs.Lists.{get_within, pushed_at}
use Rattle.av_base.proofs.Arithmetic.{first_or_none}
use Rattle.graph_plan.proofs.BindLemmas.{takes_called, takes_same, takes_within, wrong_fits, one_plan, one_fault, not_both}

-- ---- names that are the same or aren't

cases_Name : (a b : Name) → (a ≡ b) ⊎ (a ≡ b → ⊥)
cases_Name (Label a) (Label b) = elim (cases_text a b) [ inl same ↦ inl (ap Label same) | inr apart ↦ inr (λ e. apart (cc)) ]
cases_Name (Label a) (Number b) = inr (λ e. cc)
cases_Name (Number a) (Label b) = inr (λ e. cc)
cases_Name (Number a) (Number b) = elim (cases_eq a b) [ inl same ↦ inl (ap Number same) | inr apart ↦ inr (λ e. apart (cc)) ]

-- an element is there and is this one, or it isn't
cases_named : (names : List Name) (o : ℕ) (name : Name) → (slice_get names o ≡ Some name) ⊎ (slice_get names o ≡ Some name → ⊥)
cases_named names o name = elim (cases_Option (slice_get names o)) [
  | inl there ↦ elim (cases_Name there.0 name) [
    | inl same ↦ inl (there.1 ∙ ap Some same)
    | inr apart ↦ inr (λ e. apart (same_Some there.0 name (sym there.1 ∙ e)))
  ]
  | inr none ↦ inr (λ e. cc)
]

cannot_or_can : (ending : Ending) (kind : Media) → CannotTake ending kind ⊎ (CannotTake ending kind → ⊥)
cannot_or_can Y4m media.Audio = inl refl
cannot_or_can Y4m media.Video = inr (λ e. cc)
cannot_or_can Wav media.Audio = inr (λ e. cc)
cannot_or_can Wav media.Video = inl refl
cannot_or_can Frames kind = inr (λ e. e)

module _ (opens : List OpenOut) (files : List OutputFile) where
  -- ---- which pad a file takes

  -- a file takes a pad, or none
  takes_or_none : (k : ℕ) → ((o : ℕ) × Takes opens files k o) ⊎ ((o : ℕ) → Takes opens files k o → ⊥)
  takes_or_none k = elim (cases_Option (slice_get (file_names files) k)) [
    | inl called ↦ elim (first_or_none (λ o. slice_get (pad_names opens) o ≡ Some called.0) (λ o. slice_get (pad_names opens) o ≡ Some called.0 → ⊥) (λ o. cases_named (pad_names opens) o called.0) (length opens)) [
      | inl first ↦ inl (first.0, record { name = called.0; is_file = called.1; is_pad = record { holds = first.2; none_before = first.3 } })
      | inr none ↦ inr (λ o takes. none o (takes_within takes).1 (takes_called called.0 called.1 takes).holds)
    ]
    | inr none ↦ inr (λ o takes. let called = takes.is_file in cc)
  ]

  -- a file takes this pad, or it doesn't
  pub takes_or_not : (o k : ℕ) → Takes opens files k o ⊎ (Takes opens files k o → ⊥)
  takes_or_not o k = elim (takes_or_none k) [
    | inl takes ↦ elim (cases_eq takes.0 o) [
      | inl same ↦ inl (let P : ℕ → Type 0 = λ n. Takes opens files k n in subst P same takes.1)
      | inr apart ↦ inr (λ other. apart (takes_same takes.1 other))
    ]
    | inr none ↦ inr (none o)
  ]

  -- ---- each fault, or none

  finds_or_none : (k : ℕ) → FindsNone opens files k ⊎ (FindsNone opens files k → ⊥)
  finds_or_none k = elim (cases_lt k (length files)) [
    | inl low ↦ elim (takes_or_none k) [
      | inl takes ↦ elim (first_or_none (λ e. Takes opens files e takes.0) (λ e. Takes opens files e takes.0 → ⊥) (takes_or_not takes.0) k) [
        | inl taken ↦ inl (low, λ o other. let same = takes_same takes.1 other in (taken.0, taken.1, (let P : ℕ → Type 0 = λ n. Takes opens files taken.0 n in subst P same taken.2)))
        | inr free ↦ inr (λ none. let taken = none.1 takes.0 takes.1 in free taken.0 taken.1 taken.2)
      ]
      | inr none ↦ inl (low, λ o takes. absurd (none o takes))
    ]
    | inr past ↦ inr (λ none. let low = none.0 in omega arith)
  ]

  unmapped_or_mapped : (o : ℕ) → IsUnmapped opens files o ⊎ (IsUnmapped opens files o → ⊥)
  unmapped_or_mapped o = elim (cases_lt o (length opens)) [
    | inl low ↦ elim (first_or_none (λ k. Takes opens files k o) (λ k. Takes opens files k o → ⊥) (takes_or_not o) (length files)) [
      | inl taken ↦ inr (λ unmapped. unmapped.1 taken.0 taken.2)
      | inr free ↦ inl (low, λ k takes. free k (takes_within takes).0 takes)
    ]
    | inr past ↦ inr (λ unmapped. let low = unmapped.0 in omega arith)
  ]

  wrong_or_fits : (k : ℕ) → TakesWrong opens files k ⊎ (TakesWrong opens files k → ⊥)
  wrong_or_fits k = elim (takes_or_none k) [
    | inl takes ↦ (
        let file = get_within files k (takes_within takes.1).0 in
        let pad = get_within opens takes.0 (takes_within takes.1).1 in
        elim (cannot_or_can file.0.ending pad.0.media) [
          | inl cannot ↦ inl (record { place = takes.0; takes = takes.1; file = file.0; is_file = file.1; pad = pad.0; is_pad = pad.1; cannot = cannot })
          | inr can ↦ inr (λ wrong. can (wrong_fits takes.1 file.1 pad.1 wrong))
        ]
        )
    | inr none ↦ inr (λ wrong. none wrong.place wrong.takes)
  ]

  -- ---- the links to outputs

  -- if each file finds a pad, the first files have their links
  first_outputs : ((k : ℕ) → FindsNone opens files k → ⊥) → (count : ℕ) → count ≤ length files
      → (links : List Edge) × (length links ≡ count) × ((k : ℕ) (link : Edge) → slice_get links k ≡ Some link → (o : ℕ) × Takes opens files k o × ((p : OpenOut) × (slice_get opens o ≡ Some p) × (link ≡ link_to_output p k)))
  first_outputs find zero few = ([], refl, λ k link e. absurd (cc))
  first_outputs find (suc count) few = elim (takes_or_none count) [
    | inl takes ↦ (
        let so_far = first_outputs find count (omega arith) in
        let pad = get_within opens takes.0 (takes_within takes.1).1 in (
          so_far.0 ++ link_to_output pad.0 count ∷ [],
          (let many = so_far.1 in omega (arith, length_push so_far.0 (link_to_output pad.0 count))),
          λ k link e. elim (pushed_at so_far.0 (link_to_output pad.0 count) k link e) [
            | inl old ↦ so_far.2 k link old
            | inr last ↦ (
                let at : count ≡ k = sym (last.0 ∙ so_far.1) in (
                  takes.0,
                  (let P : ℕ → Type 0 = λ n. Takes opens files n takes.0 in subst P at takes.1),
                  (pad.0, pad.1, last.1 ∙ ap (link_to_output pad.0) at),
                )
                )
          ],
        )
        )
    | inr none ↦ absurd (find count (omega arith, λ o takes. absurd (none o takes)))
  ]

-- ---- one of both

-- a bound plan or a fault
abbrev OneOfBoth : DraftPlan → List OutputFile → Type 0
OneOfBoth draft files = ((plan : Plan) × IsBound draft files plan) ⊎ ((f : PlanFault) × IsBindFault draft.opens files f)

-- if each file finds a pad, each pad is taken, and the kinds fit, there is a plan
has_plan : (draft : DraftPlan) (files : List OutputFile) → ((k : ℕ) → FindsNone draft.opens files k → ⊥) → ((o : ℕ) → IsUnmapped draft.opens files o → ⊥) → ((k : ℕ) → TakesWrong draft.opens files k → ⊥) → (plan : Plan) × IsBound draft files plan
has_plan draft files find mapped fit =
    let outputs = first_outputs draft.opens files find (length files) (omega arith) in (
      record { links = draft.links ++ outputs.0; order = draft.order },
      record {
        all_find = find;
        all_mapped = mapped;
        all_fit = fit;
        outputs = outputs.0;
        are_outputs = record { each = outputs.1; are = outputs.2 };
        links = refl;
        order = refl;
      },
    )

-- if each file finds a pad, and each pad is taken
by_kinds : (draft : DraftPlan) (files : List OutputFile) → ((k : ℕ) → FindsNone draft.opens files k → ⊥) → ((o : ℕ) → IsUnmapped draft.opens files o → ⊥) → OneOfBoth draft files
by_kinds draft files find mapped = elim (first_or_none (TakesWrong draft.opens files) (λ k. TakesWrong draft.opens files k → ⊥) (wrong_or_fits draft.opens files) (length files)) [
  | inl wrong ↦ inr (WrongKind wrong.0, Mixes wrong.0 find mapped (record { holds = wrong.2; none_before = wrong.3 }))
  | inr fit ↦ inl (has_plan draft files find mapped (λ k wrong. fit k (takes_within wrong.takes).0 wrong))
]

-- if each file finds a pad
by_pads : (draft : DraftPlan) (files : List OutputFile) → ((k : ℕ) → FindsNone draft.opens files k → ⊥) → OneOfBoth draft files
by_pads draft files find = elim (first_or_none (IsUnmapped draft.opens files) (λ o. IsUnmapped draft.opens files o → ⊥) (unmapped_or_mapped draft.opens files) (length draft.opens)) [
  | inl left ↦ (
      let pad = get_within draft.opens left.0 left.1 in
      inr (Unmapped pad.0.filter pad.0.pad, Leaves pad.0.filter pad.0.pad find (left.0, record { holds = left.2; none_before = left.3 }, (pad.0, pad.1, refl, refl)))
      )
  | inr mapped ↦ by_kinds draft files find (λ o unmapped. mapped o unmapped.0 unmapped)
]

one_of_both : (draft : DraftPlan) (files : List OutputFile) → OneOfBoth draft files
one_of_both draft files = elim (first_or_none (FindsNone draft.opens files) (λ k. FindsNone draft.opens files k → ⊥) (finds_or_none draft.opens files) (length files)) [
  | inl stuck ↦ inr (NoSuchOutput stuck.0, Misses stuck.0 (record { holds = stuck.2; none_before = stuck.3 }))
  | inr find ↦ by_pads draft files (λ k none. find k none.0 none)
]

pub outputs_bind_in_one_way : OutputsBindInOneWay
outputs_bind_in_one_way = record { one_plan = one_plan; one_fault = one_fault; not_both = not_both; one_of_both = one_of_both }
