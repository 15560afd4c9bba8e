-- `image_reader::read_trailer`: the reader moves from number to number, and no place behind the trailer's wraps.
use mathlib.Core.Path.{◌≡◌}
use Prim.Native.Nat.{◌+◌}
use native.Mathlib.Omega.{arith}
use Rattle.image_reader.proofs.Laws.{behind_in, read_there}
use Rattle.image_reader.proofs.read_trailer.Goals as goal

pub returns : goal.returns
returns c =
    let at = c.trailer_place.result in
    let second : c.word.new.self.at ≡ at + 4 = omega (arith, behind_in at 4 (omega arith)) in
    let third : c.word-2.new.self.at ≡ at + 8 = omega (arith, behind_in c.word.new.self.at 4 (omega arith)) in
    let fourth : c.half.new.self.at ≡ at + 10 = omega (arith, behind_in c.word-2.new.self.at 2 (omega arith)) in
    record {
      frame = read_there 4 (cc) (omega arith) c.word.ensures.number;
      offset = read_there 4 (cc) (omega arith) c.word-2.ensures.number;
      count = read_there 2 (cc) (omega arith) c.half.ensures.number;
      edition = read_there 2 (cc) (omega arith) c.half-2.ensures.number;
    }
