-- What the words of a table that can be read show.
use Rattle.chart.specs.View.{Chart, view}
use Rattle.chart.specs.declared.Table.{Table}

abbrev pub shown : Table → Chart
shown t = view t.words.now
