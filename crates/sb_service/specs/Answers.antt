-- What a reader of a service answers.
use Rattle.std.specs.Prelude.{◌≡◌, ◌≢◌, Result, Ok, Err}
use Rattle.sb_service.specs.Rows.{Rows}
use Rattle.sb_service.specs.Views.{view_service}
use Rattle.sb_service.specs.declared.service.Service.{Service}
use Rattle.sb_service.specs.declared.service_error.ServiceError.{ServiceError}
use Rattle.sb_service.specs.declared.service_error.ServiceError.TheVariants.{NoMemory}

-- the service has the rows that are due, or the fault is; want of memory is free
abbrev pub Answers : Result Rows ServiceError → Result Service ServiceError → Type 0
Answers due (Ok service) = due ≡ Ok (view_service service)
Answers due (Err e) = e ≢ NoMemory → due ≡ Err e
