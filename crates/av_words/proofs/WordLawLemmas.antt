-- Words mean one command or have one fault, and never both.
use Rattle.std.proofs.Common.{◌≡◌, ◌++◌, ◌⊎◌, ℕ, Bool, zero, suc, List, [], ◌∷◌, Result, Ok, Err, Option, Some, None, filter, drop, get_or, refl, sym, ◌∙◌, ap, subst, inl, inr}
use Rattle.std.specs.Result.{IsErr, IsErrAnd}
use Rattle.std.specs.List.{AllZip}
use Rattle.std.proofs.lemmas.Bool.{cases_order}
use Rattle.std.proofs.lemmas.Bool.Decides.{same_from_decides}
use Rattle.std.proofs.lemmas.Option.{same_Some}
use Rattle.av_base.specs.declared.formats.Media.{Media}
use Rattle.av_text.specs.Classes.{is_label}
use Rattle.av_text.specs.Numbers.{IsNumber}
use Rattle.av_text.proofs.Runs.{run_unique}
use Rattle.graph_plan.specs.declared.plan.Ending.{Ending}
use Rattle.av_words.specs.declared.command_words.Command.{Command}
use Rattle.av_words.specs.declared.command_words.InputWord.{InputWord}
use Rattle.av_words.specs.declared.command_words.InputWord.TheVariants as input
use Rattle.av_words.specs.declared.command_words.OutputWord.{OutputWord}
use Rattle.av_words.specs.declared.word_roles.Role.{Role}
use Rattle.av_words.specs.declared.word_roles.Role.TheVariants.{Value}
use Rattle.av_words.specs.declared.word_roles.Valued.{Valued}
use Rattle.av_words.specs.declared.word_roles.Valued.TheVariants.{Workers, Slices, Order, Input, Generator, Graph}
use Rattle.av_base.specs.declared.failure.Failure.{Failure}
use Rattle.av_base.specs.declared.failure.Failure.TheVariants as error
use Rattle.av_faults.specs.declared.fault.Fault.{Fault}
use Rattle.av_faults.specs.declared.fault.Fault.TheVariants.{UnknownWord, MissingValue, BadNumber, BadEnding, SameName, NoGraph, NoOutput, Limit}
use Rattle.av_faults.specs.declared.fault.LimitKind.TheVariants.{Text, Inputs, Outputs}
use Rattle.av_words.specs.Bounds.{most_inputs, most_outputs, greatest_text}
use Rattle.av_words.specs.WordRoles.{Said, said}
use Rattle.av_words.specs.WordValues.{IsLabelled, IsCount, IsMade, SaysOrder, SaysMade}
use Rattle.av_words.specs.WordFaults.{is_input, HasFault, word_of, rank_of, IsBefore, Precedes, IsFirstFault}
use Rattle.av_words.specs.CommandWords.{SaysInputAs, SaysInput, Output, outputs_after, IsLabelOf, SaysOutput, IsSet, SaysCommand, WordsSayOneThing}
use Rattle.av_words.proofs.WholeLineLemmas.{same_last}
use Rattle.av_words.proofs.Existence.{one_of_both}
use Rattle.av_base.specs.Failures.{IfFault, Refuses}

-- ---- faults

fault_at : ℕ → Option ℕ → Fault
fault_at zero (Some n) = UnknownWord n
fault_at (suc zero) (Some n) = MissingValue n
fault_at (suc (suc zero)) (Some n) = BadNumber n
fault_at (suc (suc (suc zero))) (Some n) = BadEnding n
fault_at (suc (suc (suc (suc zero)))) (Some n) = SameName n
fault_at (suc (suc (suc (suc (suc zero))))) None = NoGraph
fault_at (suc (suc (suc (suc (suc (suc (suc zero))))))) None = Limit Inputs 0 most_inputs
fault_at (suc (suc (suc (suc (suc (suc (suc (suc zero)))))))) None = Limit Outputs 0 most_outputs
fault_at (suc (suc (suc (suc (suc (suc (suc (suc (suc zero))))))))) None = Limit Text 0 greatest_text
fault_at other word = NoOutput

is_at : (line : List Said) (f : Fault) → HasFault line f → f ≡ fault_at (rank_of f) (word_of f)
unfolding fault_at
is_at line (UnknownWord n) has = refl
is_at line (MissingValue n) has = refl
is_at line (BadNumber n) has = refl
is_at line (BadEnding n) has = refl
is_at line (SameName n) has = refl
is_at line NoGraph has = refl
is_at line NoOutput has = refl
is_at line (Limit Inputs which allowed) has = ap (λ (n : ℕ). Limit Inputs n allowed) has.0 ∙ ap (λ (n : ℕ). Limit Inputs 0 n) has.1
is_at line (Limit Outputs which allowed) has = ap (λ (n : ℕ). Limit Outputs n allowed) has.0 ∙ ap (λ (n : ℕ). Limit Outputs 0 n) has.1
is_at line (Limit Text which allowed) has = ap (λ (n : ℕ). Limit Text n allowed) has.0 ∙ ap (λ (n : ℕ). Limit Text 0 n) has.1
is_at line other has = absurd has

order_words : (a b : Option ℕ) → (a ≡ b) ⊎ (IsBefore a b ⊎ IsBefore b a)
order_words None None = inl refl
order_words None (Some m) = inr (inr tt)
order_words (Some n) None = inr (inl tt)
order_words (Some n) (Some m) = elim (cases_order n m) [
  | inl e ↦ inl (ap (λ (k : ℕ). Some k) e)
  | inr less ↦ inr less
]

order_faults : (line : List Said) (f g : Fault) → HasFault line f → HasFault line g → (f ≡ g) ⊎ (Precedes f g ⊎ Precedes g f)
order_faults line f g has there = elim (order_words (word_of f) (word_of g)) [
  | inl same ↦ elim (cases_order (rank_of f) (rank_of g)) [
    | inl e ↦ inl (is_at line f has ∙ (ap (λ (k : ℕ). fault_at k (word_of f)) e ∙ (ap (fault_at (rank_of g)) same ∙ sym (is_at line g there))))
    | inr less ↦ elim less [ inl before ↦ inr (inl (inr (same, before))) | inr after ↦ inr (inr (inr (sym same, after))) ]
  ]
  | inr apart ↦ elim apart [ inl before ↦ inr (inl (inl before)) | inr after ↦ inr (inr (inl after)) ]
]

pub same_fault : (line : List Said) (f g : Fault) → IsFirstFault line f → IsFirstFault line g → f ≡ g
same_fault line f g a b = elim (order_faults line f g a.has b.has) [
  | inl same ↦ same
  | inr apart ↦ elim apart [ inl before ↦ absurd (b.first f a.has before) | inr after ↦ absurd (a.first g b.has after) ]
]

-- ---- lists beside each other

zip_same : {X Y : Type 0} (R : X → Y → Type 0) → ((x : X) (y z : Y) → R x y → R x z → y ≡ z) → (xs : List X) (ys zs : List Y) → AllZip R xs ys → AllZip R xs zs → ys ≡ zs
zip_same R one [] [] [] p q = refl
zip_same R one [] [] (z ∷ zs) p q = absurd q
zip_same R one [] (y ∷ ys) zs p q = absurd p
zip_same R one (x ∷ xs) [] zs p q = absurd p
zip_same R one (x ∷ xs) (y ∷ ys) [] p q = absurd q
zip_same {X} {Y} R one (x ∷ xs) (y ∷ ys) (z ∷ zs) p q =
    let first = one x y z p.0 q.0 in
    let others = zip_same R one xs ys zs p.1 q.1 in
    ap (λ (a : Y). a ∷ ys) first ∙ ap (λ (l : List Y). z ∷ l) others

-- ---- values

same_number : {lowest most : ℕ} (text : List ℕ) (a b : ℕ) → IsNumber lowest most text a → IsNumber lowest most text b → a ≡ b
same_number text a b p q = p.value ∙ sym q.value

same_made : (a b c d : List ℕ) (x y : InputWord) → IsMade a b c d x → IsMade a b c d y → x ≡ y
same_made a b c d x y p q =
    let seed = same_number a p.seed q.seed p.is_seed.number q.is_seed.number in
    let width = same_number b p.width q.width p.is_width.number q.is_width.number in
    let height = same_number c p.height q.height p.is_height.number q.is_height.number in
    let frames = same_number d p.frames q.frames p.is_frames.number q.is_frames.number in
    p.input_is ∙ (
    ap (λ (n : ℕ). input.Made n p.width p.height p.frames) seed
    ∙ (ap (λ (n : ℕ). input.Made q.seed n p.height p.frames) width
    ∙ (ap (λ (n : ℕ). input.Made q.seed q.width n p.frames) height
    ∙ (ap (λ (n : ℕ). input.Made q.seed q.width q.height n) frames ∙ sym q.input_is)))
    )

one_made : (text : List ℕ) (x y : InputWord) → SaysMade text x → SaysMade text y → x ≡ y
one_made text x y p q =
    let all = sym p.4 ∙ q.4 in
    let seed = ap (λ (l : List (List ℕ)). get_or l 0 []) all in
    let width = ap (λ (l : List (List ℕ)). get_or l 1 []) all in
    let height = ap (λ (l : List (List ℕ)). get_or l 2 []) all in
    let frames = ap (λ (l : List (List ℕ)). get_or l 3 []) all in
    same_made q.0 q.1 q.2 q.3 x y (rw (seed, width, height, frames) at p.5) q.5

one_label : (text a b : List ℕ) → IsLabelled text a → IsLabelled text b → a ≡ b
one_label text a b p q =
    let tails : a ++ 93 ∷ [] ≡ b ++ 93 ∷ [] = ap (λ (xs : List ℕ). drop 1 xs) (sym p.text_is ∙ q.text_is) in
    (run_unique is_label a b (93 ∷ []) (93 ∷ []) p.each q.each refl refl tails).0

-- ---- inputs and outputs

one_input : (role : Role) (word : List ℕ) (x y : InputWord) → SaysInputAs role word x → SaysInputAs role word y → x ≡ y
one_input (Value Input) word (input.File n m) (input.File k l) p q =
    ap (λ (a : List ℕ). input.File a m) (p.0 ∙ sym q.0) ∙ ap (λ (a : Media). input.File k a) (same_Some m l (sym p.1 ∙ q.1))
one_input (Value Input) word (input.File n m) (input.Made a b c d) p q = absurd q
one_input (Value Input) word (input.Made a b c d) y p q = absurd p
one_input (Value Generator) word x y p q = one_made word x y p q
one_input other word x y p q = absurd p

one_label_of : (map a b : Option (List ℕ)) → IsLabelOf map a → IsLabelOf map b → a ≡ b
one_label_of None a b p q = p ∙ sym q
one_label_of (Some value) None b p q = absurd p
one_label_of (Some value) (Some a) None p q = absurd q
one_label_of (Some value) (Some a) (Some b) p q = ap (λ (l : List ℕ). Some l) (one_label value a b p q)

one_output : (o : Output) (x y : OutputWord) → SaysOutput o x → SaysOutput o y → x ≡ y
one_output o x y p q =
    let name = p.name ∙ sym q.name in
    let label = one_label_of o.map x.file.label y.file.label p.label q.label in
    let ending = same_Some x.file.ending y.file.ending (sym p.ending ∙ q.ending) in
    let by_name : x ≡ record { name = y.name; file = x.file } = ap (λ (n : List ℕ). record { name = n; file = x.file }) name in
    let by_label : ◌≡◌ {A = OutputWord} (record { name = y.name; file = x.file }) (record { name = y.name; file = record { label = y.file.label; ending = x.file.ending } }) =
    ap (λ (l : Option (List ℕ)). record { name = y.name; file = record { label = l; ending = x.file.ending } }) label in
    let by_ending : ◌≡◌ {A = OutputWord} (record { name = y.name; file = record { label = y.file.label; ending = x.file.ending } }) y =
    ap (λ (e : Ending). record { name = y.name; file = record { label = y.file.label; ending = e } }) ending in
    by_name ∙ (by_label ∙ by_ending)

-- ---- settings

one_setting : {X : Type 0} (line : List Said) (option : Valued) (Says : List ℕ → X → Type 0) (unset : X) → ((value : List ℕ) (x y : X) → Says value x → Says value y → x ≡ y)
    → (x y : X) → IsSet line option Says unset x → IsSet line option Says unset y → x ≡ y
one_setting line option Says unset one x y p q = elim p [
  | inl a ↦ elim q [ inl b ↦ a.1 ∙ sym b.1 | inr b ↦ absurd (a.0 b.1 (b.0, b.2.here)) ]
  | inr a ↦ elim q [
    | inl b ↦ absurd (b.0 a.1 (a.0, a.2.here))
    | inr b ↦ (
        let same = same_last line (Value option) a.0 b.0 a.1 b.1 a.2 b.2 in
        one b.1 x y (subst (λ (v : List ℕ). Says v x) same a.3) b.3
        )
  ]
]

one_count : (lowest : ℕ) (value : List ℕ) (a b : ℕ) → IsCount lowest value a → IsCount lowest value b → a ≡ b
one_count lowest value a b p q = same_number value a b p.number q.number

one_order : (value : List ℕ) (a b : List ℕ) → SaysOrder value a → SaysOrder value b → a ≡ b
one_order value a b p q = zip_same (IsNumber 1 4) (λ text x y. same_number text x y) _ a b p q

-- ---- commands

pub same_command : (line : List Said) (a b : Command) → SaysCommand line a → SaysCommand line b → a ≡ b
same_command line a b p q =
    let inputs = zip_same SaysInput (λ item x y. one_input item.role item.word x y) (filter is_input line) a.inputs b.inputs p.inputs q.inputs in
    let text = same_last line (Value Graph) p.text.0 q.text.0 a.text b.text p.text.1 q.text.1 in
    let outputs = zip_same SaysOutput one_output (outputs_after None line) a.outputs b.outputs p.outputs q.outputs in
    let workers = one_setting line Workers (IsCount 0) 0 (one_count 0) a.workers b.workers p.workers q.workers in
    let slices = one_setting line Slices (IsCount 1) 1 (one_count 1) a.slices b.slices p.slices q.slices in
    let order = one_setting line Order SaysOrder [] one_order a.order b.order p.order q.order in
    let report = same_from_decides a.report b.report p.report q.report in
    let by_inputs : ◌≡◌ {A = Command} (record { inputs = a.inputs; text = a.text; outputs = a.outputs; workers = a.workers; slices = a.slices; order = a.order; report = a.report }) (record { inputs = b.inputs; text = a.text; outputs = a.outputs; workers = a.workers; slices = a.slices; order = a.order; report = a.report }) = ap (λ (x : List InputWord). record { inputs = x; text = a.text; outputs = a.outputs; workers = a.workers; slices = a.slices; order = a.order; report = a.report }) inputs in
    let by_text : ◌≡◌ {A = Command} (record { inputs = b.inputs; text = a.text; outputs = a.outputs; workers = a.workers; slices = a.slices; order = a.order; report = a.report }) (record { inputs = b.inputs; text = b.text; outputs = a.outputs; workers = a.workers; slices = a.slices; order = a.order; report = a.report }) = ap (λ (x : List ℕ). record { inputs = b.inputs; text = x; outputs = a.outputs; workers = a.workers; slices = a.slices; order = a.order; report = a.report }) text in
    let by_outputs : ◌≡◌ {A = Command} (record { inputs = b.inputs; text = b.text; outputs = a.outputs; workers = a.workers; slices = a.slices; order = a.order; report = a.report }) (record { inputs = b.inputs; text = b.text; outputs = b.outputs; workers = a.workers; slices = a.slices; order = a.order; report = a.report }) = ap (λ (x : List OutputWord). record { inputs = b.inputs; text = b.text; outputs = x; workers = a.workers; slices = a.slices; order = a.order; report = a.report }) outputs in
    let by_workers : ◌≡◌ {A = Command} (record { inputs = b.inputs; text = b.text; outputs = b.outputs; workers = a.workers; slices = a.slices; order = a.order; report = a.report }) (record { inputs = b.inputs; text = b.text; outputs = b.outputs; workers = b.workers; slices = a.slices; order = a.order; report = a.report }) = ap (λ (x : ℕ). record { inputs = b.inputs; text = b.text; outputs = b.outputs; workers = x; slices = a.slices; order = a.order; report = a.report }) workers in
    let by_slices : ◌≡◌ {A = Command} (record { inputs = b.inputs; text = b.text; outputs = b.outputs; workers = b.workers; slices = a.slices; order = a.order; report = a.report }) (record { inputs = b.inputs; text = b.text; outputs = b.outputs; workers = b.workers; slices = b.slices; order = a.order; report = a.report }) = ap (λ (x : ℕ). record { inputs = b.inputs; text = b.text; outputs = b.outputs; workers = b.workers; slices = x; order = a.order; report = a.report }) slices in
    let by_order : ◌≡◌ {A = Command} (record { inputs = b.inputs; text = b.text; outputs = b.outputs; workers = b.workers; slices = b.slices; order = a.order; report = a.report }) (record { inputs = b.inputs; text = b.text; outputs = b.outputs; workers = b.workers; slices = b.slices; order = b.order; report = a.report }) = ap (λ (x : List ℕ). record { inputs = b.inputs; text = b.text; outputs = b.outputs; workers = b.workers; slices = b.slices; order = x; report = a.report }) order in
    let by_report : ◌≡◌ {A = Command} (record { inputs = b.inputs; text = b.text; outputs = b.outputs; workers = b.workers; slices = b.slices; order = b.order; report = a.report }) (record { inputs = b.inputs; text = b.text; outputs = b.outputs; workers = b.workers; slices = b.slices; order = b.order; report = b.report }) = ap (λ (x : Bool). record { inputs = b.inputs; text = b.text; outputs = b.outputs; workers = b.workers; slices = b.slices; order = b.order; report = x }) report in
    by_inputs ∙ (by_text ∙ (by_outputs ∙ (by_workers ∙ (by_slices ∙ (by_order ∙ (by_report))))))

pub words_say_one_thing : WordsSayOneThing
words_say_one_thing = record {
  one_command = λ words a b p q. same_command (said words) a b p q;
  one_fault = λ words f g p q. same_fault (said words) f g p q;
  not_both = λ words command fault says is. says.faultless fault is.has;
  one_of_both = one_of_both;
}

-- ---- results

-- an error that is passed on is the one fault
pub fault_passed : (line : List Said) (e : Failure Fault) (result : Result Command (Failure Fault)) → IsErr result × IsErrAnd result (λ d. d ≡ e) → IfFault {X = Unit {0}} (Err e) (IsFirstFault line) → (fault : Fault) → IsFirstFault line fault
    → Refuses (λ f. f ≡ fault) result
fault_passed line e (Ok x) passed found fault is = absurd passed.1
fault_passed line e (Err (error.Fault f)) passed found fault is =
    same_fault line f fault (subst (λ (d : Failure Fault). IfFault {X = Unit {0}} (Err d) (IsFirstFault line)) (sym passed.1) found) is
fault_passed line e (Err error.NoMemory) passed found fault is = tt
