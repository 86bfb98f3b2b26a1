-- The tests of a writer, gone through in their order.
use Rattle.std.proofs.Common.{◌≡◌, ℕ, ◌^◌, ◌<◌, ◌≤◌, ltb, leb, List, [], ◌∷◌, length, Ok, Err, Option, sym, ap, ◌∙◌}
use Rattle.std.proofs.lemmas.Bool.{lt-ltb, le-ltb, le-leb, lt-leb}
use Rattle.wire.specs.Faults.{when, first, unless}
use Rattle.wire.proofs.Firsts.{passed, stopped}
use Rattle.token.specs.declared.refusal.WriteRefusal.{WriteRefusal}
use Rattle.token.specs.declared.refusal.WriteRefusal.TheVariants.{RoundCount, CalendarCount, Publication, Second, Short}
use Rattle.layout.specs.Content.{Content, token_length}
use Rattle.writer.specs.Said.{write_answer}

module _ (t : Content) (room : ℕ) where
  -- the tests that are left
  abbrev shorts : List (Option WriteRefusal)
  shorts = when (ltb room (token_length t)) Short ∷ []

  abbrev seconds : List (Option WriteRefusal)
  seconds = when (ltb t.publication t.second) Second ∷ shorts

  abbrev publications : List (Option WriteRefusal)
  publications = when (leb (2 ^ 31) t.publication) Publication ∷ seconds

  abbrev calendars : List (Option WriteRefusal)
  calendars = when (ltb 31 (length t.calendar)) CalendarCount ∷ publications

  abbrev rounds : List (Option WriteRefusal)
  rounds = when (ltb 64 (length t.round)) RoundCount ∷ calendars

  answered : {fault : Option WriteRefusal} → first rounds ≡ fault → unless fault (token_length t) ≡ write_answer t room
  answered e = ap (λ fault. unless fault (token_length t)) (sym e)

  pub at_round : 64 < length t.round → Err RoundCount ≡ write_answer t room
  at_round h = answered (stopped calendars _ _ (lt-ltb 64 (length t.round) h))

  module _ (round : length t.round ≤ 64) where
    past_round : first rounds ≡ first calendars
    past_round = passed calendars _ _ (le-ltb 64 (length t.round) round)

    pub at_calendar : 31 < length t.calendar → Err CalendarCount ≡ write_answer t room
    at_calendar h = answered (past_round ∙ stopped publications _ _ (lt-ltb 31 (length t.calendar) h))

    module _ (calendar : length t.calendar ≤ 31) where
      past_calendar : first rounds ≡ first publications
      past_calendar = past_round ∙ passed publications _ _ (le-ltb 31 (length t.calendar) calendar)

      pub at_publication : 2 ^ 31 ≤ t.publication → Err Publication ≡ write_answer t room
      at_publication h = answered (past_calendar ∙ stopped seconds _ _ (le-leb (2 ^ 31) t.publication h))

      module _ (early : t.publication < 2 ^ 31) where
        past_publication : first rounds ≡ first seconds
        past_publication = past_calendar ∙ passed seconds _ _ (lt-leb (2 ^ 31) t.publication early)

        pub at_second : t.publication < t.second → Err Second ≡ write_answer t room
        at_second h = answered (past_publication ∙ stopped shorts _ _ (lt-ltb t.publication t.second h))

        module _ (covered : t.second ≤ t.publication) where
          past_second : first rounds ≡ first shorts
          past_second = past_publication ∙ passed shorts _ _ (le-ltb t.publication t.second covered)

          pub at_short : room < token_length t → Err Short ≡ write_answer t room
          at_short h = answered (past_second ∙ stopped [] _ _ (lt-ltb room (token_length t) h))

          pub past_all : token_length t ≤ room → Ok (token_length t) ≡ write_answer t room
          past_all h = answered (past_second ∙ passed [] _ _ (le-ltb room (token_length t) h))

-- the tests in their order
pub ruleset tests = (at_round, at_calendar, at_publication, at_second, at_short, past_all)
