-- The names of the kinds of item.
use Rattle.std.specs.Prelude.{ℕ, List, codes}
use Rattle.reader.specs.declared.item.Kind.{Kind}
use Rattle.reader.specs.declared.item.Kind.TheVariants.{Text, Control, Escape, Sequence, String, Broken, Rest}

abbrev pub kind_name : Kind → List ℕ
kind_name Text = codes "text"
kind_name Control = codes "control"
kind_name Escape = codes "escape"
kind_name Sequence = codes "sequence"
kind_name String = codes "string"
kind_name Broken = codes "broken"
kind_name Rest = codes "rest"
