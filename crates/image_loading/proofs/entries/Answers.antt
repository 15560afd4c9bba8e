-- `image_loading::entries`: the part between the offset and the trailer, or none.
use mathlib.Core.Path.{refl}
use native.Mathlib.Omega.{arith}
use Rattle.promises.proofs.Images.{readable}
use Rattle.image_loading.proofs.Reading.{numbers_of, went, went_hands}
use Rattle.image_loading.proofs.entries.Goals as goal

pub slice_bounds-result-count-2 : goal.slice_bounds-result-count-2
slice_bounds-result-count-2 c =
    let image = c.args.image.now in
    let whole = readable image (went c.read.result c.read.ensures.answer c.if-is_err.ensures.negation) in
    omega (arith, numbers_of image c.read_trailer-t.result whole.length_low c.read_trailer-t.ensures)

pub slice_bounds-result-start-2 : goal.slice_bounds-result-start-2
slice_bounds-result-start-2 c =
    let image = c.args.image.now in
    let whole = readable image (went c.read.result c.read.ensures.answer c.if-is_err.ensures.negation) in
    omega (arith, numbers_of image c.read_trailer-t.result whole.length_low c.read_trailer-t.ensures)

pub returns : goal.returns
returns c =
    let image = c.args.image.now in
    let none = went c.read.result c.read.ensures.answer c.if-is_err.ensures.negation in
    let whole = readable image none in
    let t = c.read_trailer-t.result in
    record {
      block = refl;
      start = t.offset;
      place = omega arith;
      handed = went_hands image t none (numbers_of image t whole.length_low c.read_trailer-t.ensures);
    }
