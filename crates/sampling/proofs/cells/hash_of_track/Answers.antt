use Rattle.std.proofs.Common.{◌≡◌, length, take, arith}
use Rattle.std.proofs.lemmas.List.{length-take-le}
use Rattle.tape.specs.Tape.{track}
use Rattle.sampling.specs.Fnv.{empty_hash, next_hash}
use Rattle.sampling.proofs.Parts.{cells-read, part-hashed}
use Rattle.sampling.proofs.cells.hash_of_track.Goals as goal

pub loop-place-preserved : goal.loop-place-preserved
loop-place-preserved g c =
    let s = g.C.Reading.cells c.args.cartridge.now in
    let t = track s c.args.on in
    let p = c.loop-place.place in
    let n = c.min-size.result in
    let l : length (take n c.loop-place.cells) ≡ n = length-take-le n c.loop-place.cells (omega arith) in
    let part = cells-read s c.args.on p n (length (take n c.loop-place.cells)) c.read.result c.read.new.out (take n c.loop-place.cells) c.read.ensures.answer l (omega arith) (omega arith) c.read.ensures.buffer in
    (omega arith, part-hashed next_hash empty_hash c.loop-place.hash c.hash_on-hash.result p n t c.read.new.out c.loop-place.invariant.1 part c.hash_on-hash.ensures)
