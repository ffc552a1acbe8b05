-- What a link over a hub counts.
use Rattle.std.specs.Prelude.{ℕ, Bool, true, false}
use Rattle.ct_links.specs.declared.hub.Handed.{Handed}
use Rattle.ct_links.specs.declared.hub.Handed.TheVariants as handed

-- how often it has answered the end, and how often a look
pub record LinkCounts : Type 0 where
  pub endings : ℕ
  pub looks : ℕ

-- does it say that nothing will come any more?
abbrev pub is_end : Handed → Bool
is_end (handed.Message f) = false
is_end handed.Nothing = false
is_end handed.Closed = true
