use Rattle.block_memory.proofs.TableLemmas.{table_read}
use Rattle.block_memory.proofs.table.Table.read.Goals as goal

pub returns : goal.returns
returns c = table_read _ _ c.args.number c.args.cell _ _ _ c.self.view_is c.index.ensures c.requires c.cells.ensures c.index-cells-cell.is
