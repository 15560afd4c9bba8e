-- `image_loading::read`: each answer is the first row that holds.
use mathlib.Core.Path.{◌≡◌, ◌∙◌, refl}
use mathlib.Core.Bool.{true}
use native.Mathlib.Omega.{arith}
use Rattle.rules.specs.Limits.{guest_places}
use Rattle.rules.specs.Refusals.{outside}
use Rattle.rules.specs.Image.{count_in}
use Rattle.promises.proofs.GoodTable.{below, above}
use Rattle.image_loading.proofs.Reading.{gives_9, gives_10, gives_11, as_table, refused_read, tested_bad, tested_good, numbers_of}
use Rattle.image_loading.proofs.read.Goals as goal
use Rattle.image_loading.proofs.read.Goals.{then-t-eq0-via-then-t-eq0, then-t-eq0-via-else-t-eq0+then-t-gt-GUEST_PLACES}

pub returns-then-t-ne1 : goal.returns-then-t-ne1
returns-then-t-ne1 c =
    let image = c.args.image.now in
    let n = numbers_of image c.read_trailer-t.result (omega arith) c.read_trailer-t.ensures in
    refused_read image 8 _ (gives_9 image (omega arith) (omega arith) (λ e. c.if-t-ne1.true (n.edition ∙ e))) refl

pub returns-then-t-eq0 : goal.returns-then-t-eq0
returns-then-t-eq0 c =
    let image = c.args.image.now in
    let n = numbers_of image c.read_trailer-t.result (omega arith) c.read_trailer-t.ensures in
    let out : outside 1 guest_places (count_in image) ≡ true =
    elim c.then-t-eq0.branch [
      | then-t-eq0-via-then-t-eq0 w ↦ below 1 guest_places (count_in image) (omega arith)
      | then-t-eq0-via-else-t-eq0+then-t-gt-GUEST_PLACES w ↦ above 1 guest_places (count_in image) (omega arith)
    ] in
    refused_read image 9 _ (gives_10 image (omega arith) (omega arith) (omega arith) out) refl

pub returns-then-t-image : goal.returns-then-t-image
returns-then-t-image c =
    let image = c.args.image.now in
    let n = numbers_of image c.read_trailer-t.result (omega arith) c.read_trailer-t.ensures in
    refused_read image 10 _ (gives_11 image (omega arith) (omega arith) (omega arith) (omega arith) (omega arith) (λ e. c.if-t-image.true (omega arith))) refl

pub loaded-table-requires : goal.loaded-table-requires
loaded-table-requires c =
    let n = numbers_of c.args.image.now c.read_trailer-t.result (omega arith) c.read_trailer-t.ensures in
    record {
      long = omega arith;
      frame = n.frame;
      offset = n.offset;
      count = n.count;
      few = omega arith;
      ends = omega arith;
      frame_low = c.read_trailer-t.ensures.frame.1;
    }

pub returns-in_err-check : goal.returns-in_err-check
returns-in_err-check c =
    let image = c.args.image.now in
    let n = numbers_of image c.read_trailer-t.result (omega arith) c.read_trailer-t.ensures in
    let whole = as_table image (omega arith) (omega arith) (omega arith) (omega arith) (omega arith) (omega arith) in
    tested_bad image whole c.loaded-table.ensures c.in_err-check.ensures c.from_residual.result c.from_residual.ensures.1

pub returns : goal.returns
returns c =
    let image = c.args.image.now in
    let n = numbers_of image c.read_trailer-t.result (omega arith) c.read_trailer-t.ensures in
    let whole = as_table image (omega arith) (omega arith) (omega arith) (omega arith) (omega arith) (omega arith) in
    tested_good image whole c.loaded-table.ensures c.in_ok-check.ensures
