-- Trees as rows in preorder, and rows as words: what code over slices computes, and the laws that join it to the trees of `orders`. In reading order:
--     Row          a row; the rows of trees; the rows that words tell, three for each; what rows tell
--     Place        where an element stands in the rows of its tree; a splice of rows; marks
--     RowLaws      parts, number, text and height of the rows of trees; the next trees by counting
--     PlaceLaws    the rows of an element are one run; its children by counting; a path followed; A SPLICE OF A TREE IS A SPLICE OF ITS ROWS
--     Moves        places tell paths apart; what is at or below an element; PATHS MOVE AS PLACES DO
--     Marks        the same for marks, one and all; what an element that survives keeps; the elements that come in
--     Depth        what a splice does to the greatest depth
--     Numbers      element e of a batch stands at row e + 1
--     Words        parts of words are parts of rows; what is read is what the row has
--     Examples     the definitions compute
pub mod Row
pub mod Place
