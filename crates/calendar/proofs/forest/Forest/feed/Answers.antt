use Rattle.std.proofs.Common.{◌-◌, take, reverse, ap, ◌∙◌, arith}
use Rattle.std.proofs.lemmas.List.{length-set, length_push, take_rest}
use Rattle.std.specs.List.{fold}
use Rattle.calendar.proofs.Hills.{enough, room, fed_stands}
use Rattle.calendar.proofs.forest.Forest.feed.Goals as goal

pub overflow_sub-kept : goal.overflow_sub-kept
overflow_sub-kept g c =
    let sound = c.requires.sound in
    omega (arith, enough g.J.Joining.joined c.args.self.now sound.0 sound.1 c.requires.room c.args.node, c.trailing_ones.ensures)

pub listed : goal.listed
listed g c =
    let sound = c.requires.sound in
    omega (arith, room g.J.Joining.joined c.args.self.now sound.0 sound.1 c.requires.room, sound.1.0)

pub bounds-self-kept : goal.bounds-self-kept
bounds-self-kept g c =
    let sound = c.requires.sound in
    omega (arith, room g.J.Joining.joined c.args.self.now sound.0 sound.1 c.requires.room)

pub returns : goal.returns
returns g c xs holds =
    let join = g.J.Joining.joined in
    let forest = c.args.self.now in
    let kept = forest.top - c.trailing_ones.result in (
      length-set forest.peaks kept c.joined_onto.result ∙ holds.0,
      omega (arith, room join forest xs holds c.requires.room),
      omega (arith, holds.2, length_push xs c.args.node),
      fed_stands join forest xs holds c.requires.room c.args.node kept c.joined_onto.result
          (ap (λ ones. forest.top - ones) c.trailing_ones.ensures)
          (c.joined_onto.ensures ∙ ap (λ ps. fold (λ peak last. join last peak) c.args.node (reverse ps)) (take_rest (take forest.top forest.peaks) kept)),
    )
