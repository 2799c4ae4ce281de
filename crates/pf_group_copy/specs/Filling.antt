-- Jobs whose sectors were copied.
use Rattle.std.specs.Prelude.{List, []}
use Rattle.pf_base.specs.Span.{Span, empty_span}
use Rattle.pf_base.specs.declared.filled.Filled.{Filled}
use Rattle.pf_entry.specs.Ops.{Sector}
use Rattle.pf_entry.specs.declared.ops.Op.{Op}
use Rattle.pf_entry.specs.declared.ops.Op.TheVariants.{Write, Noop, Mark}
use Rattle.pf_entry.specs.declared.ops.Job.{Job}

abbrev pub span_of_op : Op → Span
span_of_op (Write range payload) = range
span_of_op Noop = empty_span
span_of_op Mark = empty_span

abbrev pub sectors_of : Op → List Sector
sectors_of (Write range payload) = payload
sectors_of Noop = []
sectors_of Mark = []

-- the range and the sectors of the job's op
abbrev pub filled_of : Job → Filled
filled_of job = record { server = job.server; life = job.life; slot = job.slot; range = span_of_op job.op; sectors = sectors_of job.op }
