-- What contracts see of an answer.
use Rattle.flow_picture.specs.declared.pictured.Pictured.{Pictured}
use Rattle.flow_picture.specs.Pictures.{Picture}

abbrev pub view_pictured : Pictured → Picture
view_pictured p = record { faults = p.faults; picture = p.picture.items }
