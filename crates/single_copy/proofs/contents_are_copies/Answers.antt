use Rattle.single_copy.proofs.ContentMaps.{contents_have_maps, maps_show_rows, maps_show_row}
use Rattle.single_copy.proofs.OneCopy.{maps_are_one}
use Rattle.single_copy.proofs.contents_are_copies.Goals as goal

pub returns : goal.returns
returns c = record { map = contents_have_maps; one = maps_are_one; rows = maps_show_rows; row = maps_show_row }
