use Rattle.std.proofs.Common.{◌≡◌, ◌-◌, length, take, ap, ◌∙◌, subst, sym, arith}
use Rattle.std.proofs.lemmas.List.{length-drop, take_rest}
use Rattle.std.specs.Io.KnownBytes.{Consumes}
use Rattle.waits.proofs.Pieces.{consumes_both, piece_behind, length-put}
use Rattle.waits.proofs.input.read_up_to.Goals as goal

pub loop-count-preserved : goal.loop-count-preserved
loop-count-preserved g c =
    let count = c.loop-count.count in
    let read = c.in_ok-read.read in
    let memory = c.loop-count.memory in
    let piece = c.read.new.buf in
    let trail_room = length memory - count in
    let inside = c.loop-count.invariant.0 in
    let within = c.in_ok-read.ensures.bound.0 in
    let asked : length piece ≡ trail_room = c.read.auto.buf ∙ ap length (take_rest memory count) ∙ length-drop count memory in
    let same = length-put count memory piece inside trail_room asked (omega (arith, inside)) in
    let both = consumes_both _ _ _ (take count memory) (take read piece) c.loop-count.invariant.2 c.in_ok-read.ensures.bytes.0 in (
      omega (arith, within, asked, same, inside),
      same ∙ c.loop-count.invariant.1,
      subst (Consumes (g.R.Read.remaining c.args.reader.now) (g.R.Read.remaining c.read.new.self)) (sym (piece_behind count memory piece inside read trail_room within)) both,
    )
