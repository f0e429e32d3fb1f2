pub mod Grades
pub mod ByNumber
pub mod CapGrades
pub mod FavourGrades
pub mod Weights
pub mod Numbers
pub mod Fractions
