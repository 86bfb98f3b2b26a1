-- The tagged messages: the first byte names the message, so no two kinds are ever alike.
use Rattle.std.specs.Prelude.{ℕ, ◌/◌, ◌%◌, List, [], ◌∷◌, ◌++◌}
use Rattle.digest.specs.declared.value.Digest.{Digest}
use Rattle.digest.specs.declared.seed.Seed.{Seed}

-- a number below 65,536 in two bytes, highest first
abbrev pub two_bytes : ℕ → List ℕ
two_bytes n = n / 256 % 256 ∷ n % 256 ∷ []

-- a number below 2 ^ 32 in four bytes, highest first
abbrev pub four_bytes : ℕ → List ℕ
four_bytes n = n / 16777216 % 256 ∷ n / 65536 % 256 ∷ n / 256 % 256 ∷ n % 256 ∷ []

-- a record's digest as it enters a round
abbrev pub leaf_message : Digest → List ℕ
leaf_message recorded = 0 ∷ recorded.bytes

-- two nodes joined, under the tag of their tree
abbrev pub node_message : ℕ → Digest → Digest → List ℕ
node_message tag left right = tag ∷ left.bytes ++ right.bytes

-- two nodes of a round, joined
abbrev pub round_message : Digest → Digest → List ℕ
round_message left right = node_message 1 left right

-- two nodes of the calendar, joined
abbrev pub calendar_message : Digest → Digest → List ℕ
calendar_message left right = node_message 2 left right

-- a second in which no record came
abbrev pub empty_message : List ℕ
empty_message = 3 ∷ []

-- what hides an item of a round: the seed, the second in four bytes, the place in two
abbrev pub mask_message : Seed → ℕ → ℕ → List ℕ
mask_message seed second place = 4 ∷ seed.bytes ++ four_bytes second ++ two_bytes place
