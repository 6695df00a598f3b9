-- A law of lists that the library lacks: lists joined over lists put together.
use Rattle.std.specs.Prelude.{◌≡◌, refl}
use Rattle.std.proofs.Common.{sym, ap, ◌∙◌}
use mathlib.Core.List.{List, [], ◌∷◌, ◌++◌, append_assoc, flat_map}

pub flat_map-append : {A B : Type 0} (f : A → List B) (k l : List A) → flat_map f (k ++ l) ≡ flat_map f k ++ flat_map f l
unfolding flat_map
flat_map-append f [] l = refl
flat_map-append f (a ∷ k) l = ap (λ r. f a ++ r) (flat_map-append f k l) ∙ sym (append_assoc (f a) (flat_map f k) (flat_map f l))
