-- Which history it is that the code passes on as a value.
use Rattle.history.specs.Table.{tabled}
use Rattle.history.specs.History as history
use Rattle.matching.specs.declared.view.History.{History}

abbrev pub history_in : History → history.History
history_in h = tabled h.count h.end h.table.now
