-- What a writer answers for a token that was read, and what it leaves in the buffer.
use Rattle.std.specs.Prelude.{ℕ, List, Ok, Err, Result, nat_lt}
use Rattle.tree.specs.Answers.{over}
use Rattle.wire.specs.Faults.{when, unless}
use Rattle.token.specs.declared.refusal.WriteRefusal.{WriteRefusal}
use Rattle.token.specs.declared.refusal.WriteRefusal.TheVariants.{RoundCount, CalendarCount, Publication, Second, Short}

-- a refusal's number in the rule book
abbrev pub write_number : WriteRefusal → ℕ
write_number RoundCount = 64
write_number CalendarCount = 65
write_number Publication = 68
write_number Second = 69
write_number Short = 44

-- a token that was read is refused only where there is too little room
abbrev pub copy_answer : ℕ → ℕ → Result ℕ WriteRefusal
copy_answer size room = unless (when (nat_lt room size) Short) size

-- the buffer afterwards: the token's bytes at the front, and behind them what stood there; a refusal changes nothing
abbrev pub write_after : Result ℕ WriteRefusal → List ℕ → List ℕ → List ℕ
write_after (Ok size) bytes old = over bytes old
write_after (Err refusal) bytes old = old
