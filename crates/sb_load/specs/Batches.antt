-- What is loaded for a batch, before its log is read.
use Rattle.std.specs.Prelude.{◌≡◌, List, [], map, Result, Ok, Err}
use Rattle.sb_check.specs.Log.{LogFault, Logged, log_of}
use Rattle.sb_check.specs.Programs.{CheckedProgram}
use Rattle.sb_service.specs.Rows.{Rows}
use Rattle.sb_service.specs.Views.{view_service}
use Rattle.sb_load.specs.Inputs.{Inputs, log_refusal}
use Rattle.sb_load.specs.Steps.{TellsRefusal, loaded_of}
use Rattle.sb_load.specs.declared.batch_inputs.BatchInputs.{BatchInputs}
use Rattle.sb_load.specs.declared.refusal.Refusal.{Refusal}

-- the inputs of a batch by what its log says, or the refusal of the log
abbrev pub inputs_with : CheckedProgram → List Rows → Result (List Logged) LogFault → Result Inputs Refusal
inputs_with c services (Ok records) = Ok (record { program = c; services = services; records = records; asks = [] })
inputs_with c services (Err fault) = Err (log_refusal fault)

-- what is loaded is what the inputs with the log of their text are, and a refusal is the one that is loaded
abbrev pub TellsBatch : (Result Inputs Refusal → Type 0) → Result BatchInputs Refusal → Type 0
TellsBatch Loads (Ok i) = (loaded : Result Inputs Refusal) → Loads loaded
    → loaded ≡ inputs_with (loaded_of i.program) (map view_service i.services.items) (log_of (loaded_of i.program) i.log.items)
TellsBatch Loads (Err refusal) = (loaded : Result Inputs Refusal) → Loads loaded → TellsRefusal refusal loaded
