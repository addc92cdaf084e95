-- The classes of bytes that the item reader tells apart.
use Rattle.std.specs.Prelude.{ℕ, ◌+◌, Bool}
use Rattle.reader.specs.declared.cutting.Class.{Class}
use Rattle.reader.specs.declared.cutting.Class.TheVariants.{Graphic, Intermediate, Parameter, Body, EscapeFinal, SequenceFinal, Opener, EscapedOpener}
use Rattle.reader.specs.Bytes.{is_graphic, is_intermediate, is_parameter, is_body, ends_escape, ends_sequence, is_opener}

abbrev pub member : Class → ℕ → Bool
member Graphic b = is_graphic b
member Intermediate b = is_intermediate b
member Parameter b = is_parameter b
member Body b = is_body b
member EscapeFinal b = ends_escape b
member SequenceFinal b = ends_sequence b
member Opener b = is_opener b
-- the byte that ESC makes an opener of
member EscapedOpener b = is_opener (b + 64)
