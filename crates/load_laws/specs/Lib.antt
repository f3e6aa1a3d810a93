-- A load that anyone can repeat: the lists of a starting number, and their laws (document 02, Note 12). docs/LOAD.md says in words which draw chooses what.
-- To know what is said, read:
--     Load      the generator, the trees, the calls; THE LOAD of a starting number, as lists for the writer
--     Note12    NOTE 12, whole, for every starting number (`note_12`)
--     Draws     which draw chooses what, draw by draw (`first_drawn`, `call_drawn`, `note_drawn`)
--     Good      every load passes lines 2 to 7 (`load_accepted`); the writer never says 14 (`load_right`): it gives the bytes (`load_written`) or 15 (`load_short`)
--     Uses      every load has 64 calls or more, an insertion, a replacement, a change inside a replaced node that no other call removes (`load_uses`)
--     Differ    from 0 to 255 no two agree in operations and targets (`loads_differ`)
--     Examples  the trees as one would tell them; starting numbers 0, 1, 255 and the greatest, by computation
-- The proof, each file resting on those above it:
--     Trees     what the trees tell, by computation
--     Calls     every call is as lines 6 and 16 ask
pub mod Load
pub mod Draws
pub mod Examples
