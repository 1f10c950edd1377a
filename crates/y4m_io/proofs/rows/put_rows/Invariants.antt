use Rattle.y4m_io.proofs.RowLemmas.{PutsRows}
use Rattle.y4m_io.proofs.rows.put_rows.Given as goal

abbrev pub invariant-loop-i : goal.invariant-loop-i
invariant-loop-i l = PutsRows l.initial.edit l.edit l.plane l.first l.i l.bytes
