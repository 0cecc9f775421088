use Rattle.std.proofs.Common.{refl, ◌∙◌}
use Rattle.sb_io.proofs.system.FsShelfShelf.fetch.Goals as goal

pub returns-in-Failed-clause-frame : goal.returns-in-Failed-clause-frame
returns-in-Failed-clause-frame g c = record {
  same = λ any. refl;
  later = c.note.ensures.later;
  others = λ other differs. c.note.ensures.others other (λ h. differs (h ∙ c.as_bytes.ensures.value));
}
