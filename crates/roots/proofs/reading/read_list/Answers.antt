use Rattle.std.proofs.Common.{◌≡◌, ℕ, Bool, List, map, Ok, sym, ap, ◌∙◌, arith}
use Rattle.roots.specs.declared.entry.Entry.{Entry}
use Rattle.roots.specs.Entries.{second_in, rising, seconds_of, listed}
use Rattle.roots.specs.Reading.{list_entries}
use Rattle.roots.proofs.Faulted.{Headed, not_rising, read, chunks_are}
use Rattle.roots.proofs.Listed.{seconds_listed}
use Rattle.roots.proofs.reading.read_list.Given as given
use Rattle.roots.proofs.reading.read_list.Goals as goal
use Rattle.roots.proofs.reading.read_list.Goals.{After-rises}

-- what the test of the chunks says of the entries
ordered : (raws : List (List ℕ)) (entries : List Entry) (r t : Bool) → listed raws ≡ entries → r ≡ rising 0 (map second_in raws) → r ≡ t
    → rising 0 (seconds_of entries) ≡ t
ordered raws entries r t same e f = ap (λ es. rising 0 (seconds_of es)) (sym same) ∙ ap (rising 0) (sym (seconds_listed raws)) ∙ sym e ∙ f

module _ (g : given.Over) (c : After-rises g) where
  headed : Headed g.H.Hash.NUMBER c.args.bytes.now
  headed =
      record {
        long = omega arith;
        mark_0 = omega arith;
        mark_1 = omega arith;
        mark_2 = omega arith;
        version = omega arith;
        hash = omega arith;
        few = omega arith;
        size = omega arith;
      }

  chunks : listed c.as_chunks.result.0.now ≡ list_entries c.args.bytes.now
  chunks = chunks_are g.H.Hash.NUMBER c.args.bytes.now headed c.as_chunks.result.0.now c.as_chunks.ensures.front

pub returns-then-not-rises : goal.returns-then-not-rises
returns-then-not-rises g c =
    let at = (goal.at.returns-then-not-rises g c).After-rises in
    sym (not_rising _ _ (headed g at) (ordered _ _ _ _ (chunks g at) c.rises.ensures c.if-not-rises.true))

pub returns : goal.returns
returns g c =
    let at = (goal.at.returns g c).After-rises in
    ap Ok (chunks g at) ∙ sym (read _ _ (headed g at) (ordered _ _ _ _ (chunks g at) c.rises.ensures c.if-not-rises.false))
