-- `naming::Source::line` meets its contract: the line lies in the text that it stands in.
use Rattle.naming.proofs.SourceLaws.{source_in}
use Rattle.naming.proofs.Source.line.Goals as goal
use Rattle.naming.proofs.Source.line.Goals.{then-self, else-self}

pub slice_bounds-result-count : goal.slice_bounds-result-count
slice_bounds-result-count c = (source_in _ _ _ c.requires).0

pub slice_bounds-result-start : goal.slice_bounds-result-start
slice_bounds-result-start c = (source_in _ _ _ c.requires).0

pub slice_bounds-result-end : goal.slice_bounds-result-end
slice_bounds-result-end c =
    let i = source_in _ _ _ c.requires in
    elim c.if-self.branch [ then-self w ↦ rw (w.text-is) (rw (w.if-self.true) at i.1) | else-self w ↦ rw (w.text-is) (rw (w.if-self.false) at i.1) ]
