-- What a batch answers, by what its log says.
use Rattle.std.specs.Prelude.{List, map, Result, Ok, Err}
use Rattle.sb_check.specs.Log.{LogFault, Logged, log_of}
use Rattle.sb_check.specs.Programs.{CheckedProgram}
use Rattle.sb_load.specs.Inputs.{log_refusal}
use Rattle.sb_load.specs.Refusals.{Answer, refusal_answer}
use Rattle.sb_load.specs.Steps.{loaded_of}
use Rattle.sb_load.specs.declared.batch_inputs.BatchInputs.{BatchInputs}
use Rattle.sb_service.specs.Rows.{Rows}
use Rattle.sb_service.specs.Views.{view_service}
use Rattle.sb_run.specs.Run.{report_text, run_of}

-- the report over the log, or the line of what is wrong with it
abbrev pub batch_answer : CheckedProgram → List Rows → Result (List Logged) LogFault → Answer
batch_answer c services (Ok records) = record { status = 0; bytes = report_text (run_of c 1 1 records services) }
batch_answer c services (Err fault) = refusal_answer (log_refusal fault)

abbrev pub answer_of : BatchInputs → Answer
answer_of i = batch_answer (loaded_of i.program) (map view_service i.services.items) (log_of (loaded_of i.program) i.log.items)
