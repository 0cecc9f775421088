use Rattle.std.proofs.Common.{refl, ◌∙◌}
use Rattle.sb_io.proofs.memory.MemShelfShelf.fetch.Goals as goal

pub returns-then-is_due_now-clause-frame : goal.returns-then-is_due_now-clause-frame
returns-then-is_due_now-clause-frame c = record {
  same = λ any. refl;
  later = c.note.ensures.later;
  others = λ other differs. c.note.ensures.others other (λ h. differs (h ∙ c.as_bytes.ensures.value));
}

pub returns-in_default-clause-frame : goal.returns-in_default-clause-frame
returns-in_default-clause-frame c = record {
  same = λ any. refl;
  later = c.note-in_default.ensures.later;
  others = λ other differs. c.note-in_default.ensures.others other (λ h. differs (h ∙ c.as_bytes-in_default.ensures.value));
}
