-- What the service keeps, read off the struct.
use Rattle.std.specs.Prelude.{vec_items}
use Rattle.std.specs.Option.{option_map}
use Rattle.ctl.specs.Model.{Model}
use Rattle.machine.specs.declared.mask.Masked.{Masked}
use Rattle.machine.specs.declared.sheet.Sheet.{Sheet}
use Rattle.machine.specs.Mask.{masked_model}
use Rattle.machine.specs.Rows.{rows_model}
use Rattle.service.specs.declared.service.Service.{Service}
use Rattle.service.specs.Kept.{Kept}

-- the machine of a sheet under a mask
abbrev pub model_of : Masked Sheet → Model
model_of machine = masked_model (rows_model (vec_items machine.below.rows)) machine.mask

abbrev pub kept_of : Service → Kept
kept_of service = record { register = service.register; sheet = option_map model_of service.sheet }
