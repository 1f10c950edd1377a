-- Lists of formats, part by part.
use Rattle.std.proofs.Common.{◌≡◌, ◌<◌, ◌++◌, ◌⊎◌, ◌↔◌, inl, inr, ℕ, List, [], ◌∷◌, length, get_or, Some, None, ◌∙◌, ap, arith}
use Rattle.std.specs.List.{Contains}
use Rattle.std.proofs.lemmas.List.Elements.{Contains-append_left, Contains-push, Contains-push_cases, Contains-get_or}
use Rattle.av_base.specs.declared.formats.PixelFormat.{PixelFormat}
use Rattle.av_base.specs.declared.formats.Format.{Format}
use Rattle.av_base.specs.declared.formats.Format.TheVariants as format
use Rattle.av_base.specs.declared.sets.FormatSet.{FormatSet}
use Rattle.av_base.specs.FormatSets.{Has}
use Rattle.av_filter.specs.Words.{word_in}
use Rattle.filt_video.specs.Formats.{format_words, IsNamed, AreFormats}

pub no_formats : (set : FormatSet) → ((f : Format) → ¬ Has set f) → AreFormats [] set
no_formats set empty = record {
  each = λ part h. let below = h.1 in absurd (omega arith);
  has = λ f. (λ h. absurd (empty f h), λ n. let below = n.is_part.1 in absurd (omega arith));
}

module _ (parts : List (List ℕ)) (part : List ℕ) (pixels : PixelFormat) (old new : FormatSet) (named : word_in format_words part ≡ Some pixels)
    (more : (f : Format) → Has new f ↔ (Has old f ⊎ (f ≡ format.Video pixels))) (so_far : AreFormats parts old) where
  each_more : (x : List ℕ) → Contains parts x ⊎ (part ≡ x) → (p : PixelFormat) × (word_in format_words x ≡ Some p)
  each_more x (inl h) = so_far.each x h
  each_more x (inr e) = (pixels, rw (← e) named)

  has_more : (f : Format) → Has old f ⊎ (f ≡ format.Video pixels) → IsNamed (parts ++ part ∷ []) f
  has_more f (inl h) =
      let n = (so_far.has f).0 h in
      record { part = n.part; is_part = Contains-append_left parts (part ∷ []) n.part n.is_part; pixels = n.pixels; named = n.named; is = n.is }
  has_more f (inr e) = record { part = part; is_part = Contains-push parts part; pixels = pixels; named = named; is = e }

  same_pixels : {x : List ℕ} {p : PixelFormat} → part ≡ x → word_in format_words x ≡ Some p → p ≡ pixels
  same_pixels e h = let n = rw e at named in cc

  had_more : (f : Format) (n : IsNamed (parts ++ part ∷ []) f) → Contains parts n.part ⊎ (part ≡ n.part) → Has old f ⊎ (f ≡ format.Video pixels)
  had_more f n (inl h) = inl ((so_far.has f).1 (record { part = n.part; is_part = h; pixels = n.pixels; named = n.named; is = n.is }))
  had_more f n (inr e) = inr (n.is ∙ ap (λ p. format.Video p) (same_pixels e n.named))

  pub one_more_format : AreFormats (parts ++ part ∷ []) new
  one_more_format = record {
    each = λ x h. each_more x (Contains-push_cases parts part x h);
    has = λ f. (λ h. has_more f ((more f).0 h), λ n. (more f).1 (had_more f n (Contains-push_cases parts part n.part n.is_part)));
  }

-- a part that names no format
pub not_formats : (parts : List (List ℕ)) (n : ℕ) (part : List ℕ) → (n < length parts) × (part ≡ get_or parts n part) → word_in format_words part ≡ None → (set : FormatSet) → ¬ AreFormats parts set
not_formats parts n part at none set all =
    let named = all.each part (rw (← at.1) at (Contains-get_or parts n part at.0)) in
    let found = named.1 in
    cc
