-- The recogniser as a function, from the nodes and their least types. It goes so many steps at most; that so many are enough, and that it then
-- descends as Figure 6 does, is proved elsewhere.
use Rattle.std.specs.Prelude.{Bool, not, ◌&&◌, ◌||◌, cond, List, [], ◌∷◌, ℕ, zero, suc, ◌+◌, ◌*◌, eqb, length}
use Rattle.basics.specs.Bits.{bit}
use Rattle.sheet.specs.Expression.{Expression}
use Rattle.types.specs.Types.{is_bottom}
use Rattle.types.specs.LeastTypes.{type_of, least_types}
use Rattle.types.specs.Nodes.{Node, epsilon_node, bottom_node, token_node, sequence_node, alternative_node, fixed_point_node, variable_node, repetition_node, nodes, node_at}
use Rattle.recogniser.specs.Descends.{Descent, left, stuck}

-- let s' = .. in ..
abbrev pub and_then : Descent → (List ℕ → Descent) → Descent
and_then (left s) f = f s
and_then (stuck s) f = stuck s

-- "c ∈ τ.FIRST or τ.NULL ∧ c ∉ (τ ∨ τ').FIRST"
abbrev pub entering : Bool → Bool → Bool → Bool
entering begins null other_begins = begins || (null && not (begins || other_begins))

module _ (begins : ℕ → ℕ → Bool) (null : ℕ → Bool) where
  unfoldable pub descend_step : (ℕ → List ℕ → Descent) → Node → List ℕ → Descent
  descend_step go epsilon_node s = left s
  descend_step go bottom_node s = stuck s
  descend_step go (token_node c) [] = stuck []
  descend_step go (token_node c) (c' ∷ s) = cond (eqb c c') (left s) (stuck (c' ∷ s))
  descend_step go (sequence_node g g') s = and_then (go g s) (go g')
  descend_step go (alternative_node g g') [] = cond (null g || null g') (left []) (stuck [])
  descend_step go (alternative_node g g') (c ∷ s) = cond (entering (begins g c) (null g) (begins g' c)) (go g (c ∷ s))
      (cond (entering (begins g' c) (null g') (begins g c)) (go g' (c ∷ s)) (stuck (c ∷ s)))
  descend_step go (fixed_point_node g) s = go g s
  descend_step go (variable_node f guarded) s = go f s
  descend_step go (repetition_node g self) [] = left []
  descend_step go (repetition_node g self) (c ∷ s) = cond (begins g c) (and_then (go g (c ∷ s)) (go self)) (left (c ∷ s))

  unfoldable pub descend : (ℕ → Node) → ℕ → ℕ → List ℕ → Descent
  descend table zero n s = stuck s
  descend table (suc k) n s = descend_step (descend table k) (table n) s

-- For an expression: FIRST and NULL of a node's least type.
abbrev pub begins_at : Expression → ℕ → ℕ → Bool
begins_at e n t = bit (type_of (least_types e) n).first t

abbrev pub null_at : Expression → ℕ → Bool
null_at e n = (type_of (least_types e) n).null

-- So many steps are enough for a sequence of tokens: 65 for each token, and 64 more.
abbrev pub descend_of : Expression → ℕ → List ℕ → Descent
descend_of e n s = descend (begins_at e) (null_at e) (node_at (nodes e)) (length s * 65 + 64) n s

-- From the start, unless that has the type of ⊥ and denotes nothing.
unfoldable pub descend_whole : Expression → List ℕ → Descent
descend_whole e s = cond (is_bottom (type_of (least_types e) 0)) (stuck s) (descend_of e 0 s)
