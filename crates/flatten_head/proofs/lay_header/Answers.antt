-- `flatten_head::lay_header` meets its contract: the first twelve words, and behind them the last six. Assumes nothing.
use Rattle.chart.specs.View.{view}
use Rattle.flatten_head.proofs.Sections.{header_laid}
use Rattle.flatten_head.proofs.lay_header.Goals as goal

pub returns : goal.returns
returns c =
    let s = c.args in
    let p = c.places_of-p in
    header_laid (view s.t.table.words.now) s.s p.result s.room.now c.requires p.ensures
    c.lay_counts.ensures c.lay_places.ensures
