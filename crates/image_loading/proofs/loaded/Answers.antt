-- `image_loading::loaded`: the numbers read and the part handed on are the image's table.
use Rattle.image_loading.proofs.Reading.{table_whole}
use Rattle.image_loading.proofs.loaded.Goals as goal

pub returns : goal.returns
returns c = table_whole c.args.image.now c.args.t c.requires _ c.entries_of.ensures
