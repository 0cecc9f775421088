-- The most bytes of each file.
use Rattle.std.specs.Prelude.{ℕ}

abbrev pub most_program_bytes : ℕ
most_program_bytes = 65536

abbrev pub most_service_bytes : ℕ
most_service_bytes = 16777216

abbrev pub most_log_bytes : ℕ
most_log_bytes = 67108864

abbrev pub most_script_bytes : ℕ
most_script_bytes = 4194304
