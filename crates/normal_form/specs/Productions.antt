-- "The nonterminals are the expression's nodes. A node's productions: ..": Figure 4 of the flap paper with the variables resolved, and repetition.
-- Which productions stay, and under which number a node is written, is said elsewhere.
use Rattle.std.specs.Prelude.{Bool, true, false, ◌||◌, List, [], ◌∷◌, ◌++◌, map, ℕ, eqb, get_or, length}
use Rattle.std.proofs.Math.Option.{Option, none, some}
use Rattle.basics.specs.Rounds.{rounds}
use Rattle.sheet.specs.Expression.{Expression}
use Rattle.types.specs.Nodes.{Node, epsilon_node, bottom_node, token_node, sequence_node, alternative_node, fixed_point_node, variable_node, repetition_node, nodes}

-- A production that begins with a symbol: a token here, a rule in an image. Its tail is a list of nonterminals.
pub record Production : Type 0 where
  pub head : ℕ
  pub tail : List ℕ

-- "Tails and their image field run to 32": a tail is at most as long as the number of sequence nodes, and one more where its row has ε.
abbrev pub most_tail : ℕ
most_tail = 32

-- "a long enough stack .. is 1 + 31 × the text's length": a take replaces one pending nonterminal at least by a tail, so that this
-- many more are pending at most.
abbrev pub most_growth : ℕ
most_growth = 31

-- The production of a list that begins with a symbol. A row of an accepted sheet's normal form has at most one.
unfoldable pub production_of : ℕ → List Production → Option Production
production_of t [] = none
production_of t (p ∷ ps) = elim (eqb p.head t) [ true ↦ some p | false ↦ production_of t ps ]

-- A nonterminal's productions: whether ε is one of them ("its ε flag"), and the others.
pub record Row : Type 0 where
  pub has_epsilon : Bool
  pub productions : List Production

abbrev pub no_productions : Row
no_productions = record { has_epsilon = false; productions = [] }

-- Which pending nonterminal took a symbol, and those that are pending then.
pub record Taking : Type 0 where
  pub taker : ℕ
  pub pending : List ℕ

-- A nonterminal added at the end of a production's tail.
unfoldable pub ended_by : ℕ → Production → Production
ended_by n p = record { head = p.head; tail = p.tail ++ (n ∷ []) }

abbrev pub row_of : List Row → ℕ → Row
row_of rows n = get_or rows n no_productions

-- "ε gives ε; a token gives itself with an empty tail; ⊥ none; a sequence gives its left part's productions, the right node
-- added at the end of each tail; an alternative gives both parts'; a fixed point its body's; a variable its fixed point's."
-- A repetition's "row is ε and the part's productions, the repetition node added at the end of each tail".
-- No node can be added to ε; a sequence whose left part has ε, and a repetition whose part has it, is turned down by question 9.
unfoldable pub node_row : List Row → Node → Row
node_row rows epsilon_node = record { has_epsilon = true; productions = [] }
node_row rows bottom_node = no_productions
node_row rows (token_node t) = record { has_epsilon = false; productions = record { head = t; tail = [] } ∷ [] }
node_row rows (sequence_node l r) = record { has_epsilon = false; productions = map (ended_by r) (row_of rows l).productions }
node_row rows (alternative_node l r) = record {
  has_epsilon = (row_of rows l).has_epsilon || (row_of rows r).has_epsilon;
  productions = (row_of rows l).productions ++ (row_of rows r).productions;
}
node_row rows (fixed_point_node b) = row_of rows b
node_row rows (variable_node f guarded) = row_of rows f
node_row rows (repetition_node b self) = record { has_epsilon = true; productions = map (ended_by self) (row_of rows b).productions }

-- The productions of all nodes, in sheet order. A node's productions come down from a left part, an alternative, a body, a repetition's
-- part or a fixed point, and such a descent meets no node twice if every variable is guarded: a round for each node is enough.
unfoldable pub rows : Expression → List Row
rows e = rounds no_productions node_row (nodes e) (length (nodes e))
