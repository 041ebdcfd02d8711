-- What words that are no command owe.
use Rattle.std.proofs.Common.{◌≡◌, inl, refl, sym, subst, ◌∙◌, arith}
use Rattle.act1_outside.specs.Outside.{Bench, Shelf}
use Rattle.act1_frame.specs.declared.ending.Ending.{Ending}
use Rattle.act1_frame.proofs.Fine.{IsFine, status_of_text}
use Rattle.act1_frame.proofs.Runs.{IsLawful}
use Rattle.act1_words.specs.declared.command.Command.TheVariants.{Unknown}
use Rattle.act1_top.specs.Run.{reads_of, writes_of, writes_at, usage_ending, chosen_of, MayEnd}

usage_fine : (before after : Shelf) → IsFine (Unknown ≡ Unknown) (reads_of Unknown) (writes_at Unknown) before after usage_ending
usage_fine before after = record {
  words = λ n. refl;
  three = λ n. absurd (omega (arith, n));
  read = λ n. absurd (omega (arith, n));
  long = λ n. absurd (omega (arith, n));
  file = λ f n. cc;
}

pub usage_lawful : (bench left : Bench) → IsLawful (Unknown ≡ Unknown) (reads_of Unknown) (writes_of Unknown) (writes_at Unknown) (chosen_of Unknown) (MayEnd Unknown bench left)
usage_lawful bench left = record {
  fine = λ before after e h. subst (λ (p : Ending). IsFine (Unknown ≡ Unknown) (reads_of Unknown) (writes_at Unknown) before after p) (sym h) (usage_fine before after);
  later = λ before mid after same e h. h;
  one = λ before after told no_fault e p h k. inl (status_of_text 1 usage_ending.text e h ∙ sym (status_of_text 1 usage_ending.text p k));
  named = λ status name h. h;
}
