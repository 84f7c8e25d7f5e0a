-- What the words of a table that can be read show.
use Rattle.flat.specs.View.{Flat, flat_view}
use Rattle.flat.specs.declared.Table.{Table}

abbrev pub shown : Table → Flat
shown t = flat_view t.words.now
