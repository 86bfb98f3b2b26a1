-- What a hash answers for a message.
use Rattle.std.specs.Prelude.{ℕ, cond, List, length, Ok, Err, Result, nat_lt}
use Rattle.digest.specs.declared.value.Digest.{Digest}
use Rattle.digest.specs.declared.refusal.Refusal.{Refusal}
use Rattle.digest.specs.declared.refusal.Refusal.TheVariants.{TooLong}

-- the longest message that a hash takes, in bytes
abbrev pub longest : ℕ
longest = 65536

-- a hash's refusals by their numbers
abbrev pub refusal_number : Refusal → ℕ
refusal_number TooLong = 5

-- a message above the longest is refused; any other has its digest
abbrev pub answered : (List ℕ → Digest) → List ℕ → Result Digest Refusal
answered digested message = cond (nat_lt longest (length message)) (Err TooLong) (Ok (digested message))
