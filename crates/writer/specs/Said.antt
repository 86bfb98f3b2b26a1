-- What a token is written from, and what the writer answers.
use Rattle.std.specs.Prelude.{ℕ, ◌^◌, [], ◌∷◌, length, Result, nat_le, nat_lt}
use Rattle.wire.specs.Faults.{when, first, unless}
use Rattle.layout.specs.Content.{Content, token_length}
use Rattle.token.specs.declared.refusal.WriteRefusal.{WriteRefusal}
use Rattle.token.specs.declared.refusal.WriteRefusal.TheVariants.{RoundCount, CalendarCount, Publication, Second, Short}
use Rattle.writer.specs.declared.fields.Fields.{Fields}

-- what the fields say
abbrev pub said : Fields → Content
said f =
    record {
      recorded = f.recorded;
      second = f.second;
      publication = f.publication;
      round = f.round.now;
      calendar = f.calendar.now;
    }

-- what a reader would refuse, then a buffer with too little room; else the token's length
abbrev pub write_answer : Content → ℕ → Result ℕ WriteRefusal
write_answer t room =
    unless (
    first (
    when (nat_lt 64 (length t.round)) RoundCount
    ∷ when (nat_lt 31 (length t.calendar)) CalendarCount
    ∷ when (nat_le (2 ^ 31) t.publication) Publication
    ∷ when (nat_lt t.publication t.second) Second
    ∷ when (nat_lt room (token_length t)) Short
    ∷ []
    )
    ) (token_length t)
