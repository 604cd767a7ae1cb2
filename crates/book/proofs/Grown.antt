-- The register of a manager grows step by step, and what its fields say of it can be used.
use Rattle.std.proofs.Common.{ℕ, ◌≤◌, List, length, refl, ◌∙◌}
use Rattle.register.specs.declared.Register.{Register}
use Rattle.diagrams.specs.declared.Row.{Row}
use Rattle.diagrams.specs.Books.{KeptBook, capacity}
use Rattle.diagrams.specs.Diagram.{row_hash}
use Rattle.diagrams.specs.declared.Operation.TheVariants.{Union, Intersection}
use Rattle.register.specs.Chains.{Indexed}
use Rattle.book.specs.declared.scratch.Entry.{Entry}
use Rattle.diagrams.proofs.Applied.{extends_more}
use Rattle.diagrams.proofs.MakingRows.{extends_same}
use Rattle.book.specs.Scratch.{Remembers, Ready}
use Rattle.book.specs.Growing.{Enlarged}
use Rattle.book.specs.declared.manager.Manager.{Manager}

pub ready : (m : Manager) → Ready m.register.now.rows.now m.register.now.count m.heads.now m.next.now m.unions.now m.intersections.now
ready m = record {
  kept = m.kept;
  indexed = m.indexed;
  room = m.room;
  unions_right = m.unions_right;
  intersections_right = m.intersections_right;
}

pub grown_none : (r : Register Row) → KeptBook r.rows.now r.count → Enlarged r r
grown_none r kept = record { rows = refl; extends = extends_same r.rows.now r.count kept }

pub grown_more : {a b c : Register Row} → Enlarged a b → Enlarged b c → Enlarged a c
grown_more g h = record { rows = h.rows ∙ g.rows; extends = extends_more g.extends h.extends }

-- the ghost fields of a manager, from what they say together
pub fields : {rows : List Row} {count : ℕ} {heads next : List ℕ} {unions intersections : List Entry} → Ready rows count heads next unions intersections
    → record { kept : KeptBook rows count; indexed : Indexed row_hash rows count heads next; room : capacity rows ≤ length next; unions_right : Remembers Union rows count unions; intersections_right : Remembers Intersection rows count intersections }
fields r = record { kept = r.kept; indexed = r.indexed; room = r.room; unions_right = r.unions_right; intersections_right = r.intersections_right }
