-- What a reader holds, and what it answers.
use Rattle.std.specs.Prelude.{Ok, Err, Result}
use Rattle.layout.specs.declared.fault.Fault.{Fault}
use Rattle.token.specs.declared.token.Token.{Token}
use Rattle.layout.specs.Parts.{Parts}

abbrev pub held : Token → Parts
held t =
    record {
      whole = t.bytes.now;
      recorded = t.recorded.now;
      second = t.second;
      publication = t.publication;
      round = t.round.now;
      calendar = t.calendar.now;
    }

abbrev pub told : Result Token Fault → Result Parts Fault
told (Ok token) = Ok (held token)
told (Err fault) = Err fault
