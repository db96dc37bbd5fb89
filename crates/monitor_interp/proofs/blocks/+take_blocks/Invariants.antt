use Rattle.monitor_interp.proofs.blocks.+take_blocks.Given as goal

abbrev pub decreases-take_blocks : goal.decreases-take_blocks
decreases-take_blocks l = l.count
