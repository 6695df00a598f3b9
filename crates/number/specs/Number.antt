-- What a number is, as bytes, and what writing one leaves. Definitions only: the laws are in `Laws` and `Splice`.
-- The page: "A number is written in groups of seven bits, lowest group first, one byte a group, with bit 7 set when another
-- group follows. It uses the fewest bytes and lies below 2^64 (ten groups at most)." From request [3] on it need not use the fewest in a sheet.
use Rattle.std.specs.Prelude.{ℕ, zero, suc, ◌+◌, ◌*◌, ◌^◌, ◌/◌, ◌%◌, ◌<◌, List, [], ◌∷◌, ◌++◌, Bool, cond, ◌||◌, length, take, drop, leb, ltb, eqb, Option, Some, None}
use Rattle.number.specs.declared.Number.{Number}

-- "written in groups of seven bits, lowest group first, one byte a group, with bit 7 set when another group follows": these bytes are
-- groups of this number. High groups may be empty, and how many there are is not asked.
pub data InGroups : ℕ → List ℕ → Type 0 where
  last_group : {g : ℕ} → g < 128 → InGroups g (g ∷ [])
  then_groups : {g n : ℕ} {bytes : List ℕ} → g < 128 → InGroups n bytes → InGroups (g + 128 * n) ((128 + g) ∷ bytes)

-- The groups that a reader finds: a last group, or a group that others follow.
pub data Groups : Type 0 where
  last : ℕ → Groups
  more : ℕ → Groups → Groups

-- How many groups there are: "one byte a group".
unfoldable pub count : Groups → ℕ
count (last g) = 1
count (more g gs) = suc (count gs)

-- The value: a group counts 128 times as much as the group before it.
unfoldable pub value : Groups → ℕ
value (last g) = g
value (more g gs) = g + 128 * value gs

-- The last group, which is the highest.
unfoldable pub highest : Groups → ℕ
highest (last g) = g
highest (more g gs) = highest gs

-- What stands at the front of some bytes: all groups of a number, or no byte that could end one (missing, or cut off).
pub data Front : Type 0 where
  cut : Front
  whole : Groups → Front

-- A group, put before the groups that follow it.
unfoldable pub followed : ℕ → Front → Front
followed g cut = cut
followed g (whole gs) = whole (more g gs)

-- "with bit 7 set when another group follows": a byte below 128 is a last group; of any other, bit 7 is taken off.
unfoldable pub front : List ℕ → Front
front [] = cut
front (b ∷ rest) = cond (ltb b 128) (whole (last b)) (followed (b % 128) (front rest))

-- "It uses the fewest bytes": one group alone, or a last group that is not zero and so can't be left out.
unfoldable pub fewest : ℕ → ℕ → Bool
fewest groups highest = eqb groups 1 || ltb 0 highest

-- A number that is read: its value, how many bytes it has and whether they are the fewest.
abbrev pub read : ℕ → ℕ → Bool → Option Number
read v n are_fewest = Some (record { value = v; used = n; fewest = are_fewest })

-- "ten groups at most", "below 2^64": two tests of the number of groups and the value. "The number reader now also tells its callers how
-- many bytes it read and whether they were the fewest."
unfoldable pub judged : ℕ → ℕ → ℕ → Option Number
judged groups highest n = cond (leb groups 10) (cond (ltb n (2 ^ 64)) (read n groups (fewest groups highest)) None) None

-- The number that the groups at the front make.
unfoldable pub number_from : Front → Option Number
number_from cut = None
number_from (whole gs) = judged (count gs) (highest gs) (value gs)

-- The number at a place of some bytes: its value, how many bytes were read and whether they were the fewest; or no number.
unfoldable pub decode : List ℕ → ℕ → Option Number
decode bytes at = number_from (front (drop at bytes))

-- The same where a number "uses the fewest bytes", as in an image: a padded number is none.
unfoldable pub unpadded : Option Number → Option Number
unpadded (Some n) = cond n.fewest (Some n) None
unpadded None = None

unfoldable pub decode_fewest : List ℕ → ℕ → Option Number
decode_fewest bytes at = unpadded (decode bytes at)

-- The bytes of a number, in at most so many groups: the lowest seven bits with bit 7 set, then what is above them.
unfoldable pub encode_in : ℕ → ℕ → List ℕ
encode_in zero n = []
encode_in (suc k) n = cond (ltb n 128) (n ∷ []) ((128 + n % 128) ∷ encode_in k (n / 128))

-- The bytes of a number below 2^64, which are the fewest. Ten groups hold 70 bits, so the bound of ten cuts nothing off.
unfoldable pub encode : ℕ → List ℕ
encode n = encode_in 10 n

-- A buffer in which the bytes from a place on are replaced by those of a list.
unfoldable pub splice : List ℕ → ℕ → List ℕ → List ℕ
splice d at e = take at d ++ (e ++ drop (at + length e) d)

-- How many bytes writing a number into a part uses: those of the number, or none where the part is too short.
unfoldable pub used : List ℕ → ℕ → Option ℕ
used part n = cond (leb (length (encode n)) (length part)) (Some (length (encode n))) None

-- What writing a number leaves in a part: the number's bytes, then what was there; a part that is too short stays as it is.
unfoldable pub written : List ℕ → ℕ → List ℕ
written part n = cond (leb (length (encode n)) (length part)) (encode n ++ drop (length (encode n)) part) part

-- "Each number is written into what remains of the image buffer": the same for the part from a cursor on.
unfoldable pub used_at : List ℕ → ℕ → ℕ → Option ℕ
used_at d at n = used (drop at d) n

unfoldable pub written_at : List ℕ → ℕ → ℕ → List ℕ
written_at d at n = take at d ++ written (drop at d) n
