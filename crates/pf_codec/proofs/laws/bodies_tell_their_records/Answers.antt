use Rattle.pf_entry.specs.Canonical.{IsCanonicalRecord, second_format}
use Rattle.pf_entry.specs.declared.records.Record.{Record}
use Rattle.pf_codec.specs.Fitting.{RecordFits}
use Rattle.pf_codec.proofs.BodyLaws.{HasBody, window_of_second, bodies_tell}
use Rattle.pf_codec.proofs.laws.bodies_tell_their_records.Goals as goal

body : (r : Record) → RecordFits r → IsCanonicalRecord 2 r → HasBody second_format window_of_second r
body r fits c = record { is = (fits, c.fields); short = c.short }

pub returns-clause-record_is : goal.returns-clause-record_is
returns-clause-record_is c = λ r s x y fits_r fits_s is_r is_s e. (bodies_tell second_format window_of_second r s x y (body r fits_r is_r) (body s fits_s is_s) e).0

pub returns-clause-rest_is : goal.returns-clause-rest_is
returns-clause-rest_is c = λ r s x y fits_r fits_s is_r is_s e. (bodies_tell second_format window_of_second r s x y (body r fits_r is_r) (body s fits_s is_s) e).1
