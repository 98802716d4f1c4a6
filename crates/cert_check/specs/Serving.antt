-- Rows and truth values for a problem.
use Rattle.std.specs.Prelude.{◌≡◌, length, vec_len}
use Rattle.poly_graph.specs.ProblemViews.{Parts}
use Rattle.ival.specs.SpaceViews.{space_of}
use Rattle.ival.specs.RowViews.{rows_of}
use Rattle.plain_eval.specs.Suits.{Suits}
use Rattle.plain_eval.specs.Rows.{AreEnclosures}
use Rattle.plain_eval.specs.Upward.{IsUpward}
use Rattle.cert_check.specs.Judged.{AreJudged}
use Rattle.cert_check.specs.declared.centre.Centre.{Centre}
use Rattle.cert_check.specs.declared.tools.Tools.{Tools}

-- a space of the problem's axes, whose rows are the enclosures over some space
pub record IsCentre (p : Parts) (c : Centre) : Type 0 where
  pub axes : length (space_of c.space) ≡ length p.axes
  pub rows : AreEnclosures p.nodes (rows_of c.rows)
  pub room : Suits p.nodes c.room

-- the rows are the enclosures over some space, and each atom is judged by its row
pub record Serves (p : Parts) (t : Tools) : Type 0 where
  pub upward : IsUpward p.nodes t.upward
  pub rows : AreEnclosures p.nodes (rows_of t.rows)
  pub judged : AreJudged p (rows_of t.rows) t.judged
  pub scratch : length (rows_of t.scratch) ≡ length p.nodes
  pub centre : IsCentre p t.centre
  pub truths : vec_len t.marks.truths ≡ length p.forms
