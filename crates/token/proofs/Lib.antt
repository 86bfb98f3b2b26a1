mod Linked
