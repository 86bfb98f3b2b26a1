-- What a record puts into a round.
use Rattle.std.specs.Prelude.{ℕ, cond, List, length, Ok, Err, Result, nat_lt}
use Rattle.digest.specs.declared.value.Digest.{Digest}
use Rattle.digest.specs.declared.refusal.Refusal.{Refusal}
use Rattle.digest.specs.declared.refusal.Refusal.TheVariants.{TooLong}
use Rattle.digest.specs.Hashes.{longest}
use Rattle.digest.specs.Messages.{leaf_message}
use Rattle.entry.specs.declared.entered.Entry.{Entry}

-- its digest, and the digest of its leaf message; a record above the longest message is refused
abbrev pub entered : (List ℕ → Digest) → List ℕ → Result Entry Refusal
entered digested bytes = cond (nat_lt longest (length bytes)) (Err TooLong) (Ok (record { digest = digested bytes; leaf = digested (leaf_message (digested bytes)) }))
