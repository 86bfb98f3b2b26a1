use Rattle.std.proofs.Common.{◌≡◌, ℕ, ◌/◌, ◌%◌, ◌<◌, List, ◌++◌, length, take, drop, Some, Ok, sym, ap, ◌∙◌, arith}
use Rattle.std.specs.Result.{result_ok}
use Rattle.std.proofs.lemmas.List.{length-append, length-drop, take_at}
use Rattle.arrayvec.proofs.ArrayVecLemmas.{items-with_items}
use Rattle.digest.specs.declared.value.Digest.{Digest}
use Rattle.tree.specs.Trees.{path, shape}
use Rattle.tree.specs.Answers.{path_answer, links_after, path_over}
use Rattle.pile.specs.Meaning.{Way, round_join}
use Rattle.layers.specs.Grouping.{group, group_path, grouping}
use Rattle.layers.proofs.Ways.{no_none}
use Rattle.layers.proofs.Layers.{front_is}
use Rattle.layers.proofs.Eights.{path_there, path_length, path_three, path_answered}
use Rattle.layers.proofs.grouping.group_path.Goals as goal

pub returns-in_err-count : goal.returns-in_err-count
returns-in_err-count g c =
    let items : List Digest = c.args.items.now in
    let place : ℕ = c.args.place in
    let room : ℕ = length c.deref_mut.result.now in
    let inside : place < length items = omega arith in
    let ok = path_answered items place room inside (omega (arith, ap length c.deref_mut.ensures.value, c.from-path.ensures.1)) in
    let same = ap (λ (xs : List Digest). path_answer (length xs) (place % 8) room) c.group_of.ensures in
    no_none c.ok.result _ (c.ok.ensures.value ∙ ap result_ok (c.path.ensures.answer ∙ (same ∙ ok))) c.in_err-count.was

pub returns : goal.returns
returns g c =
    let digested = g.H.Hash.digested in
    let items : List Digest = c.args.items.now in
    let place : ℕ = c.args.place in
    let links : Way = c.deref_mut.result.now in
    let count : ℕ = c.in_ok-count.count in
    let way : Way = group_path digested items place in
    let size : ℕ = length (shape (length (group items (place / 8))) (place % 8)) in
    let inside : place < length items = omega arith in
    let room = ap length c.deref_mut.ensures.value in
    let ok = path_answered items place (length links) inside (omega (arith, room, c.from-path.ensures.1)) in
    let same = ap (λ (xs : List Digest). path_answer (length xs) (place % 8) (length links)) c.group_of.ensures in
    let is : c.path.result ≡ Ok size = c.path.ensures.answer ∙ (same ∙ ok) in
    let told : Some count ≡ Some size = sym c.in_ok-count.was ∙ (c.ok.ensures.value ∙ ap result_ok is) in
    let counted : count ≡ size = cc in
    let whole : length way ≡ size = path_length digested items place inside in
    let there = ap (λ xs. path (round_join digested) xs (place % 8)) c.group_of.ensures ∙ path_there digested items place inside in
    let written : c.path.new.links ≡ way ++ drop (length way) links =
    c.path.ensures.links
    ∙ (ap (λ r. links_after r (path (round_join digested) c.group_of.result.now (place % 8)) links) is ∙ ap (λ o. path_over o links) there) in
    let kept : length c.path.new.links ≡ length c.from-path.result.items = omega (
      arith,
      ap length written,
      length-append way (drop (length way) links),
      length-drop (length way) links,
      path_three digested items place inside,
      room,
      c.from-path.ensures.1,
    ) in
    ap Some
    (c.truncate.ensures.items
    ∙ (ap (take count) (items-with_items c.from-path.result c.path.new.links kept ∙ written)
    ∙ take_at way (drop (length way) links) count (whole ∙ sym counted)))
    ∙ sym (front_is (grouping digested) items place inside)
