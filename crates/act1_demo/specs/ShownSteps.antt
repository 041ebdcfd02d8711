-- What is known in the middle of a run.
use Rattle.std.specs.Prelude.{ℕ, ◌≡◌, Bool, List, ◌++◌, length}
use Rattle.act1_blif.specs.declared.blif.Blif.{Blif}
use Rattle.act1_blif.specs.Run.{Shows}
use Rattle.act1_demo.specs.Shown.{shown_text}

-- in the state q what is shown over the vectors to come, behind what was shown so far, is what is shown over all of them from the first state; and the text has the lines so far
pub record IsShownSoFar (net : Blif) (first : List Bool) (vectors : List (List Bool)) (q : List Bool) (to_come : List (List Bool)) (text : List ℕ) : Type 0 where
  pub one_each : length q ≡ length net.latches
  pub so_far : List (List Bool)
  pub goes_on : (more : List (List Bool)) → Shows net q to_come more → Shows net first vectors (so_far ++ more)
  pub text_is : text ≡ shown_text so_far
