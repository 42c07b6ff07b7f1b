-- The fields of a seat and its view.
use Rattle.std.specs.Prelude.{◌≡◌, ℕ, List, Bool, Option}
use Rattle.fp_order.specs.declared.entry.Entry.{Entry}
use Rattle.fp_board_rule.specs.declared.view.View.{View}

pub record Agrees (view : View) (number : ℕ) (known : List (Option Entry)) (noted : List Bool) (claim : Option ℕ) (given : ℕ) : Type 0 where
  pub same_number : view.number ≡ number
  pub same_known : view.known ≡ known
  pub same_noted : view.noted ≡ noted
  pub same_claim : view.claim ≡ claim
  pub same_given : view.given ≡ given
