-- `c_images::entries`: the part between the offset and the trailer, or none.
use mathlib.Core.Path.{sym}
use Prim.Native.Nat.{◌-◌}
use native.Mathlib.Omega.{arith}
use lib.ListN.{length, take, drop, length-take, length-drop}
use Rattle.promises.proofs.Images.{readable}
use Rattle.image_loading.proofs.Reading.{numbers_of, went, went_hands}
use Rattle.c_images.proofs.entries.Goals as goal

pub overflow_sub-result-in-Ok : goal.overflow_sub-result-in-Ok
overflow_sub-result-in-Ok c =
    let image = c.args.image.now in
    let whole = readable image (went c.read.result c.read.ensures.answer (rw c.in-Ok.is)) in
    omega (arith, numbers_of image c.read_trailer-offset.result whole.length_low c.read_trailer-offset.ensures)

pub returns-in-Ok : goal.returns-in-Ok
returns-in-Ok c =
    let image = c.args.image.now in
    let none = went c.read.result c.read.ensures.answer (rw c.in-Ok.is) in
    let whole = readable image none in
    let t = c.read_trailer-offset.result in
    let behind = drop t.offset image in
    let n = length image - 12 - t.offset in
    record {
      bytes = take n behind;
      allowed = went_hands image t none (numbers_of image t whole.length_low c.read_trailer-offset.ensures);
      long = omega (arith, length-take n behind, length-drop t.offset image);
      number = record { answer = sym none };
    }
