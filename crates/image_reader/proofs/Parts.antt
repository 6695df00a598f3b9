-- What the definitions of an image's reading say, one law a definition. No other file of this crate opens them, and nothing is
-- concluded here.
use mathlib.Core.Path.{◌≡◌, refl}
use mathlib.Core.Bool.{Bool, true, not, cond, ◌&&◌}
use mathlib.Core.List.{List, [], ◌∷◌}
use Prim.Native.Nat.{ℕ, suc, ◌+◌, ◌^◌}
use lib.ListN.{length, get_or}
use lib.Dec.{leb, ltb, eqb}
use Rattle.std.specs.Prelude.{None}
use Rattle.number.specs.Number.{decode_fewest, read}
use Rattle.sheet.specs.Field.{Reading, stop, got, and_then, between, field_of, read_field, read_many}
use Rattle.normal_form.specs.Productions.{most_tail}
use Rattle.image.specs.Image.{Image}
use Rattle.image.specs.ImageReading.{image_field, read_flag, read_list, read_position, read_production, read_row, image_end, read_image}

pub between_is : (l m v : ℕ) → between l m v ≡ (leb l v && leb v m)
unfolding between
between_is l m v = refl

module _ {S A : Type 0} (one : S → ℕ → Reading A) (update : S → A → S) (s : S) where
  pub many_none : (at : ℕ) → read_many one update s 0 at ≡ got [] at
  unfolding read_many
  many_none at = refl

  pub many_more : (n at : ℕ)
      → read_many one update s (suc n) at
      ≡ and_then (one s at) (λ a next. and_then (read_many one update (update s a) n next) (λ l end. got (a ∷ l) end))
  unfolding read_many
  many_more n at = refl

pub list_is : {A : Type 0} (one : ℕ → Reading A) (n at : ℕ) → read_list one n at ≡ read_many (λ (s : Bool) at. one at) (λ s a. s) true n at
unfolding read_list
list_is one n at = refl

module _ (bytes : List ℕ) where
  pub field_missing : (p : ℕ → Bool) (at : ℕ) → decode_fewest bytes at ≡ None → image_field p bytes at ≡ stop 13 at
  unfolding image_field read_field field_of
  field_missing p at e = rw e

  pub field-number : (p : ℕ → Bool) (at : ℕ) {v n : ℕ} {f : Bool} → decode_fewest bytes at ≡ read v n f
      → image_field p bytes at ≡ cond (p v) (got v (at + n)) (stop 13 at)
  unfolding image_field read_field field_of
  field-number p at e = rw e

  pub flag_is : (at : ℕ) → read_flag bytes at ≡ and_then (image_field (between 0 1) bytes at) (λ v next. got (eqb v 1) next)
  unfolding read_flag
  flag_is at = refl

  pub position_is : (rules count before at : ℕ)
      → read_position bytes rules count before at
      ≡ and_then (image_field (between 0 255) bytes at)
      (λ low at_high. and_then (image_field (between low 255) bytes at_high)
      (λ high at_rule. and_then (image_field (λ v. leb before v && ltb v rules) bytes at_rule)
      (λ rule at_last. and_then (read_flag bytes at_last)
      (λ last at_follow. and_then (image_field (λ v. ltb v (2 ^ count)) bytes at_follow)
      (λ follow end. got (record { low = low; high = high; rule = rule; last = last; follow = follow }) end)))))
  unfolding read_position
  position_is rules count before at = refl

  module _ (skips : List Bool) (count : ℕ) where
    pub production_is : (least at : ℕ)
        → read_production bytes skips count least at
        ≡ and_then (image_field (λ v. leb least v && (ltb v (length skips) && not (get_or skips v true))) bytes at)
        (λ rule at_length. and_then (image_field (between 0 most_tail) bytes at_length)
        (λ size at_tail. and_then (read_list (image_field (λ v. ltb v count) bytes) size at_tail)
        (λ tail end. got (record { head = rule; tail = tail }) end)))
    unfolding read_production
    production_is least at = refl

    pub row_is : (at : ℕ)
        → read_row bytes skips count at
        ≡ and_then (read_flag bytes at)
        (λ empty at_count. and_then (image_field (between 0 32) bytes at_count)
        (λ size at_first. and_then (read_many (read_production bytes skips count) (λ least p. suc p.head) 0 size at_first)
        (λ ps end. got (record { has_epsilon = empty; productions = ps }) end)))
    unfolding read_row
    row_is at = refl

  pub end_is : (i : Image) (end : ℕ) → image_end bytes i end ≡ cond (eqb end (length bytes)) (got i end) (stop 13 end)
  unfolding image_end
  end_is i end = refl

  pub image_is :
      read_image bytes
      ≡ and_then (image_field (between 1 1) bytes 0)
      (λ version at_rules. and_then (image_field (between 1 32) bytes at_rules)
      (λ rules at_skips. and_then (read_list (read_flag bytes) rules at_skips)
      (λ skips at_count. and_then (image_field (between 1 64) bytes at_count)
      (λ count at_positions. and_then (read_many (read_position bytes rules count) (λ before p. p.rule) 0 count at_positions)
      (λ ps at_first. and_then (image_field (λ v. ltb v (2 ^ count)) bytes at_first)
      (λ first at_nonterminals. and_then (image_field (between 1 64) bytes at_nonterminals)
      (λ nonterminals at_rows. and_then (read_list (read_row bytes skips nonterminals) nonterminals at_rows)
      (λ rows end. image_end bytes (record { skips = skips; positions = ps; first = first; rows = rows }) end))))))))
  unfolding read_image
  image_is = refl
