-- What the format of a regex or of an expression is after a tag. Definitions that the laws of the sheet's format speak of; nothing is proved here.
use Rattle.std.specs.Prelude.{Bool, not, ◌&&◌, ◌||◌, eqb, get_or}
use mathlib.Core.List.{List, [], ◌∷◌}
use Prim.Native.Nat.{ℕ, suc, ◌+◌}
use Rattle.std.proofs.Math.Dec.{ltb}
use Rattle.sheet.specs.Limits.{most_classes, most_regex_nodes}
use Rattle.sheet.specs.Regex.{Regex, empty, class, concat, union, star}
use Rattle.sheet.specs.Expression.{Expression, epsilon, bottom, token, sequence, alternative, fixed_point, variable, repetition}
use Rattle.sheet.specs.Field.{between}
use Rattle.sheet.specs.Format.{Format, field}
use Rattle.sheet.specs.SheetFormat.{regex_format, expression_format}

-- Whether the limits are kept with a tag.
abbrev pub regex_limits : ℕ → ℕ → ℕ → Bool
regex_limits nodes classes tag = ltb nodes most_regex_nodes && (not (eqb tag 1) || ltb classes most_classes)

abbrev pub after_regex_tag : {X : Type 0} → ℕ → ℕ → ℕ → (Regex → ℕ → ℕ → Format X) → ℕ → Format X
after_regex_tag {X} depth nodes classes next tag =
    let none = next empty (nodes + 1) classes in
    let bytes = field 4 (between 0 255) (λ low. field 4 (between low 255) (λ high. next (class low high) (nodes + 1) (classes + 1))) in
    let two : (Regex → Regex → Regex) → Format X =
    λ make. regex_format depth (nodes + 1) classes (λ r n c. regex_format depth n c (λ s. next (make r s))) in
    let one = regex_format depth (nodes + 1) classes (λ r. next (star r)) in
    get_or (none ∷ bytes ∷ two concat ∷ two union ∷ one ∷ []) tag none

-- The places are those of the tags so far.
abbrev pub after_expression_tag : {X : Type 0} → ℕ → ℕ → ℕ → List ℕ → (Expression → List ℕ → Format X) → ℕ → Format X
after_expression_tag {X} depth tokens opened places next tag =
    let below : ℕ → (ℕ → Expression) → Format X = λ bound make. field 4 (λ k. ltb k bound) (λ k. next (make k) places) in
    let one : ℕ → (Expression → Expression) → Format X = λ inside make. expression_format depth tokens inside places (λ g. next (make g)) in
    let two : (Expression → Expression → Expression) → Format X =
    λ make. expression_format depth tokens opened places (λ g p. expression_format depth tokens opened p (λ h. next (make g h))) in
    get_or (next epsilon places ∷ next bottom places ∷ below tokens token ∷ two sequence ∷ two alternative ∷ one (suc opened) fixed_point
    ∷ below opened variable ∷ one opened repetition ∷ []) tag (next bottom places)
