-- A descent over an expression's table, step by step: what the code's functions are given, and what their answers mean. A node is read, and
-- then what comes after it, up to the root, the node at which a call ends. The descent itself is that of recogniser's Descends.
use Rattle.std.specs.Prelude.{◌≡◌, Bool, ◌&&◌, List, ◌⊎◌, ℕ, suc, ◌+◌, ◌-◌, ◌*◌, ◌/◌, ◌%◌, ◌≤◌, ◌<◌, ltb, length, get_or, drop}
use Rattle.basics.specs.Bits.{bit}
use Rattle.sheet.specs.Expression.{Expression, size}
use Rattle.types.specs.Languages.{HasWord, Begins}
use Rattle.types.specs.NodeLanguages.{language_of}
use Rattle.types.specs.Nodes.{nodes, node_at}
use Rattle.types.specs.Types.{HasType}
use Rattle.recogniser.specs.Descends.{Descent, left, stuck, Descends, DescendsFromStart}
use Rattle.recogniser.specs.Ranks.{EndsIn, most_rank}
use Rattle.descent_table.specs.TableOf.{link_at, up_at, first_at, TableOf}

-- The last k entries, which are the tokens left.
abbrev pub last : List ℕ → ℕ → List ℕ
last tokens k = drop (2048 - k) tokens

-- Whether the next of k tokens is in the node's first set, which is one word.
unfoldable pub begins_with : List ℕ → List ℕ → ℕ → ℕ → Bool
begins_with table tokens node k =
    ltb 0 k && (ltb (get_or tokens (2048 - k) 0) 64 && bit (first_at table node) (get_or tokens (2048 - k) 0))

-- The answer's number where the descent is stuck with k tokens left.
abbrev pub stuck_at : ℕ → ℕ
stuck_at k = k * 2 + 1

-- Of an answer's number: the descent is stuck, or fewer than so many tokens are left.
abbrev pub Below : ℕ → ℕ → Type 0
Below bound r = (r % 2 ≡ 1) ⊎ (r / 2 < bound)

-- What an answer's number stands for.
pub data AnswerFor (tokens : List ℕ) : ℕ → Descent → Type 0 where
  comes_to : (k : ℕ) → k ≤ 2048 → AnswerFor tokens (k * 2) (left (last tokens k))
  fails_at : (k : ℕ) → k ≤ 2048 → AnswerFor tokens (stuck_at k) (stuck (last tokens k))

module _ (e : Expression) (table : List ℕ) (root : ℕ) where
  -- What comes after node n, up to the root: the right part of the nearest sequence in whose left part it stands, or the repetition in
  -- whose part it stands, and then what comes after that.
  pub data After : ℕ → List ℕ → Descent → Type 0 where
    nothing_more : {n : ℕ} {s : List ℕ} → up_at table n ≤ root → After n s (left s)
    goes_on : {n : ℕ} {s s' : List ℕ} {o : Descent} (p : ℕ) → up_at table n ≡ suc p → root ≤ p → Descends e (link_at table p) s (left s')
        → After p s' o → After n s o
    fails_on : {n : ℕ} {s s' : List ℕ} (p : ℕ) → up_at table n ≡ suc p → root ≤ p → Descends e (link_at table p) s (stuck s')
        → After n s (stuck s')

  -- Node n is read, and then what comes after it.
  pub data Through : ℕ → List ℕ → Descent → Type 0 where
    reads : {n : ℕ} {s s' : List ℕ} {o : Descent} → Descends e n s (left s') → After n s' o → Through n s o
    fails : {n : ℕ} {s s' : List ℕ} → Descends e n s (stuck s') → Through n s (stuck s')

  -- All that comes after node n has a word.
  pub data Pending : ℕ → Type 0 where
    none_pending : {n : ℕ} → up_at table n ≤ root → Pending n
    next_pending : {n : ℕ} (p : ℕ) → up_at table n ≡ suc p → root ≤ p → p ≤ link_at table p
        → up_at table (link_at table p) ≡ up_at table p → HasWord (language_of e (link_at table p)) → Pending p → Pending n

-- What every call is given: the table is the expression's, so many tokens are left, and what is pending has words.
pub record Held (e : Expression) (table tokens : List ℕ) (root node k : ℕ) : Type 0 where
  pub typed : HasType e
  pub table_held : TableOf e table
  pub all_entries : length tokens ≡ 2048
  pub few : k ≤ 2048
  pub is_node : node < size e
  pub pending : Pending e table root node

-- A node that the next token begins, from which a descent ends in so many steps.
pub record Entering (e : Expression) (table tokens : List ℕ) (root node k rank : ℕ) : Type 0 where
  pub held : Held e table tokens root node k
  pub some_left : 1 ≤ k
  pub begun : Begins (language_of e node) (get_or tokens (2048 - k) 0)
  pub inside : root ≤ node
  pub steps : ℕ
  pub ends : EndsIn (node_at (nodes e)) steps node
  pub enough : steps ≤ rank
  pub few_ranks : rank < 256

-- A node that is done. The rank is enough for all that comes after it, and then for a descent.
pub record Leaving (e : Expression) (table tokens : List ℕ) (root node k rank : ℕ) : Type 0 where
  pub held : Held e table tokens root node k
  pub enough : up_at table node + most_rank ≤ rank
  pub few_ranks : rank < 256

-- A node that denotes something.
pub record Visiting (e : Expression) (table tokens : List ℕ) (root node k rank : ℕ) : Type 0 where
  pub leaving : Leaving e table tokens root node k rank
  pub inside : root ≤ node
  pub has_word : HasWord (language_of e node)

-- The answer to reading node n and what comes after it, and to what comes after it alone.
abbrev pub Entered : Expression → List ℕ → List ℕ → ℕ → ℕ → ℕ → ℕ → Type 0
Entered e table tokens root node k r = (o : Descent) × AnswerFor tokens r o × Through e table root node (last tokens k) o

abbrev pub Left : Expression → List ℕ → List ℕ → ℕ → ℕ → ℕ → ℕ → Type 0
Left e table tokens root node k r = (o : Descent) × AnswerFor tokens r o × After e table root node (last tokens k) o

-- What the functions promise of an answer, wherever they are given so: to enter a node, to visit it, and to leave it.
abbrev pub EnterGives : Expression → List ℕ → List ℕ → ℕ → ℕ → ℕ → ℕ → Type 0
EnterGives e table tokens root node falling r =
    (k rank : ℕ) → falling ≡ k * 256 + rank → Entering e table tokens root node k rank → Entered e table tokens root node k r

abbrev pub VisitGives : Expression → List ℕ → List ℕ → ℕ → ℕ → ℕ → ℕ → Type 0
VisitGives e table tokens root node falling r =
    (k rank : ℕ) → falling ≡ k * 256 + rank → Visiting e table tokens root node k rank → Entered e table tokens root node k r

abbrev pub LeaveGives : Expression → List ℕ → List ℕ → ℕ → ℕ → ℕ → ℕ → Type 0
LeaveGives e table tokens root node falling r =
    (k rank : ℕ) → falling ≡ k * 256 + rank → Leaving e table tokens root node k rank → Left e table tokens root node k r

-- The answer to the descent from the start.
abbrev pub FromStart : Expression → List ℕ → ℕ → ℕ → Type 0
FromStart e tokens k r = (o : Descent) × AnswerFor tokens r o × DescendsFromStart e (last tokens k) o
