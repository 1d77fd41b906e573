-- The code of a block for C, whatever it holds: it moves a box's pointer and allocator, or has none.
use mathlib.Core.Path.{refl, sym, subst}
use mathlib.Core.List.{List, [], ◌∷◌, ◌++◌}
use seplogic.Ra.Ura.{Ura}
use mir.Syntax.{Fn, Sym, Ty, impl, tnil, tcons, dnil, ty_ptr, ty_struct, w64, int, local, value_local, place, field, copy, rv_opd, assign, aggregate, seq, return}
use mir.Val.{Val, vstruct, of_list, has_ty}
use base.Logic.{SProp, ent, id⊢}
use base.Fml.{Fml, fsep}
use prog.Wp.{WpFn, Tables}
use types.Logic.{Logic}
use types.Kit.{Goal, Seq, Item, ‵, ◌$◌, ◌∵◌, !, qed, by, move, use1, fjoin, feq_i, fpack, done}
use types.Part.{whole, sub, agg}
use types.Run.{stop, fld, lit, no_more, and_then, of_opd, returns, enter}
use types.ByLocal.{alloc_all, pass_all, free_all, look_at, get, get_in, sets}
use denote.RattleType.{RattleType, Valss}
use denote.RawPtr.{Ptr, RawPtr, null_ptr, ptr_val}
use denote.Param.{layout}
use denote.Param.Laws.{Laws}
use denote.Steps.{nothing}
use denote.Struct.Owning.{shape}
use denote.Struct.Struct.{Struct, within}
use Rattle.std.proofs.Common.{◌≡◌, Option, Some, None, true, true≢false}
use Rattle.std.specs.Prelude.{is_some}
use Rattle.std.specs.Global.{Global}
use Rattle.c_parts.specs.OnBlock.{block_owns}
use Rattle.core.proofs.alloc.Calls.{α, handle_tells}
use Rattle.core.proofs.atomic.Steps.{Ptr-Good}
use Rattle.std_alloc.proofs.BoxSteps.Form.{Bx, D, B, P, owning, word, box_typed}
use Rattle.std_alloc.proofs.BoxSteps.Steps.{box_out, box_in}
use Rattle.std_alloc.proofs.ResultValues.{and_tt}
use Rattle.std_heap.specs.contracts.Global as Heap
use Rattle.std_heap.specs.contracts.GlobalAllocator.TheImpl.{ghosts, dict}
use Rattle.std_heap.proofs.Global.TheLaws as heap

-- a box of any value, in the heap
abbrev pub boxed : (X : RattleType) → Laws X → Bx
boxed X LX = record { row = X; laws = LX; al = record { row = Heap.the_row; laws = heap.the_row_laws; g = ghosts; d = dict; drops = impl [] tnil dnil } }

abbrev pub pair : Sym → Ty
pair name = ty_struct name (tcons ty_ptr (tcons (layout Heap.the_row) tnil))

-- it copies a pointer and an allocator from one struct to the other
abbrev pub moving : Sym → Sym → Fn
moving to from = record {
  lifetimes = 0;
  outlives = [];
  ty_params = [];
  givens = 0;
  params = 1;
  locals = local (pair to) value_local ∷ local (pair from) value_local ∷ local ty_ptr value_local ∷ local (layout Heap.the_row) value_local ∷ local ty_ptr value_local ∷ [];
  body = seq (assign (place 2 []) (rv_opd (copy (place 1 (field 0 ∷ []))))) (seq (assign (place 3 []) (rv_opd (copy (place 1 (field 1 ∷ []))))) (seq (assign (place 4 []) (rv_opd (copy (place 2 [])))) (seq (assign (place 0 []) (aggregate (copy (place 4 []) ∷ copy (place 3 []) ∷ []))) return)));
}

-- a null pointer beside an allocator
abbrev pub starting : Sym → Fn
starting to = record {
  lifetimes = 0;
  outlives = [];
  ty_params = [];
  givens = 0;
  params = 1;
  locals = local (pair to) value_local ∷ local (layout Heap.the_row) value_local ∷ local ty_ptr value_local ∷ [];
  body = seq (assign (place 2 []) (rv_opd (int w64 0))) (seq (assign (place 0 []) (aggregate (copy (place 2 []) ∷ copy (place 1 []) ∷ []))) return);
}

module _ (X : RattleType) (LX : Laws X) where
  abbrev E : Bx
  E = boxed X LX

  -- what a block owns, whatever its struct is called
  abbrev pub owned : Ptr → Global → Option X.Denot → List Val → Fml
  owned ptr alloc held vs = fsep ((Struct (shape (owning E))).own_val (ptr, (alloc, tt)) vs) (block_owns X alloc ptr held)

  module _ {M : Type 1} {𝓤 : Ura M} {𝓛 : Logic 𝓤} {K : Type 0} {Γ : List (Item 𝓤)} {G : Goal 𝓤 𝓛.H} where
    -- a block that holds a value is a box of it
    pub as_box : K → (ptr : Ptr) (alloc : Global) (vs : List Val) (held : Option X.Denot) → is_some held ≡ true
        → ((d : X.Denot) → held ≡ Some d → Seq K 𝓛 (‵ ((B E).own_val (record { ptr = ptr; alloc = alloc; value = d }) vs) ∷ Γ) G)
        → Seq K 𝓛 (‵ (owned ptr alloc held vs) ∷ Γ) G
    as_box t ptr alloc vs None some k = absurd (true≢false (sym some))
    as_box t ptr alloc vs (Some d) some k = use1 𝓛 (‵ ((B E).own_val (record { ptr = ptr; alloc = alloc; value = d }) vs)) (id⊢ 𝓤 _) $ k d refl

module _ (X : RattleType) (LX : Laws X) {M : Type 1} {𝓤 : Ura M} (𝓛 : Logic 𝓤) (𝓣 : Tables 𝓤 𝓛.H) where
  open 𝓛 use {H}

  -- what a box owns goes with its two fields
  pub moved : (to from : Sym) (v : D (E X LX)) (vs : List Val) (Post : Val → SProp 𝓤)
      → ((w : Val) → ent 𝓤 (types.Kit.⋆ 𝓛 (‵ ((B (E X LX)).own_val v (w ∷ [])) ∷ [])) (Post w))
      → ent 𝓤 (types.Kit.⋆ 𝓛 (‵ ((B (E X LX)).own_val v vs) ∷ [])) (WpFn 𝓤 H 𝓣.C 𝓣.Λ (moving to from) (vs ++ []) Post)
  moved to from v vs Post k =
      qed 𝓛 (‵ ((B (E X LX)).own_val v vs) ∷ []) ∵ box_out (E X LX) ! v vs (λ b o hv e ws fa. box_in (E X LX) ! v b o v.value e refl $
      let w = word (E X LX) hv b o in
      let Γ : List (Item 𝓤) = ‵ ((B (E X LX)).own_val v (w ∷ [])) ∷ [] in
      by ! (subst (λ (us : List Val). ent 𝓤 (types.Kit.⋆ 𝓛 Γ) (WpFn 𝓤 H 𝓣.C 𝓣.Λ (moving to from) (us ++ []) Post)) (sym ws)
      (qed 𝓛 Γ ∵ enter ! 𝓣.C 𝓣.Λ (moving to from) (w ∷ []) _ $ alloc_all ! (λ ls. pass_all ! refl (box_typed (E X LX) hv b o fa, tt) $
      sets ! (of_opd ! (get_in ! (fld ! refl (stop !)) (sub ! 0 refl (whole !)))) refl (tt, tt) $ sets ! (of_opd ! (get_in ! (fld ! refl (stop !)) (sub ! 1 refl (whole !)))) refl fa $
      sets ! (of_opd ! (get ! refl)) refl (tt, tt) $ sets ! (agg ! (and_then ! (get ! refl) (and_then ! (get ! refl) (no_more !)))) refl (box_typed (E X LX) hv b o fa) $ returns ! (look_at ! 0 refl) $ free_all ! refl $
      by ! (k w)))))

  -- an allocator becomes a block that holds nothing
  pub started : (to : Sym) (a : Global) (vs : List Val) (Post : Val → SProp 𝓤)
      → ((w : Val) → ent 𝓤 (types.Kit.⋆ 𝓛 (‵ (owned X LX null_ptr a None (w ∷ [])) ∷ [])) (Post w))
      → ent 𝓤 (types.Kit.⋆ 𝓛 (‵ (Heap.the_row.own_val a vs) ∷ [])) (WpFn 𝓤 H 𝓣.C 𝓣.Λ (starting to) (vs ++ []) Post)
  started to a vs Post k =
      qed 𝓛 (‵ (Heap.the_row.own_val a vs) ∷ []) ∵ handle_tells (E X LX).al ! a vs (λ hv ws fa.
      let w = vstruct (of_list (ptr_val null_ptr ∷ hv ∷ [])) in
      let Γ : List (Item 𝓤) = ‵ (Heap.the_row.own_val a (hv ∷ [])) ∷ [] in
      by ! (subst (λ (us : List Val). ent 𝓤 (types.Kit.⋆ 𝓛 Γ) (WpFn 𝓤 H 𝓣.C 𝓣.Λ (starting to) (us ++ []) Post)) (sym ws)
      (qed 𝓛 Γ ∵ enter ! 𝓣.C 𝓣.Λ (starting to) (hv ∷ []) _ $ alloc_all ! (λ ls. pass_all ! refl (fa, tt) $
      sets ! (of_opd ! (lit ! tt)) refl (Ptr-Good null_ptr) $
      sets ! (agg ! (and_then ! (get ! refl) (and_then ! (get ! refl) (no_more !)))) refl (and_tt (has_ty (α (E X LX).al) hv) fa.0, ((Ptr-Good null_ptr).1, (fa.1, tt))) $ returns ! (look_at ! 0 refl) $ free_all ! refl $
      nothing ! $ nothing ! $ move ! (2 ∷ 0 ∷ []) $ fjoin ! $ feq_i ! (List Val) (ptr_val null_ptr ∷ []) (ptr_val null_ptr ∷ []) refl $ fjoin ! $
      feq_i ! (List Val) (w ∷ []) (w ∷ []) refl $ fjoin ! $
      fpack ! (Valss (RawPtr ∷ P (E X LX) ∷ [])) (within (shape (owning (E X LX))) (null_ptr, (a, tt)) (w ∷ [])) (ptr_val null_ptr ∷ [], (hv ∷ [], tt)) $ fjoin ! $
      use1 𝓛 (‵ (owned X LX null_ptr a None (w ∷ []))) (id⊢ 𝓤 _) $ by ! (k w)))))
