use Rattle.pf_law_contents.proofs.Serial.{all_serial}
use Rattle.pf_law_contents.proofs.laws.serial_exchanges_tell_what_is_stored.Goals as goal

pub returns : goal.returns
returns c = all_serial
